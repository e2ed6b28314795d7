use Rattle.asn1_types.proofs.oid.subidentifier.+put_leading.Given as goal

abbrev pub decreases-put_leading : goal.decreases-put_leading
decreases-put_leading l = l.number
