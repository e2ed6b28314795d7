use Rattle.x509_types.proofs.Valued.{types_written, digests_written, requests_written, kept_written}
use Rattle.x509_types.proofs.attribute.values.AttributeValues.write.Goals as goal

pub returns-in-ContentType : goal.returns-in-ContentType
returns-in-ContentType c = types_written _ _ _ c.in-ContentType.is c.write_list.ensures

pub returns-in-MessageDigest : goal.returns-in-MessageDigest
returns-in-MessageDigest c = digests_written _ _ _ c.in-MessageDigest.is c.write_list-in-MessageDigest.ensures

pub returns-in-Extensions : goal.returns-in-Extensions
returns-in-Extensions c = requests_written _ _ _ c.in-Extensions.is c.write_list-in-Extensions.ensures

pub returns-in-Raw : goal.returns-in-Raw
returns-in-Raw c = kept_written _ _ _ c.in-Raw.is c.write_list-in-Raw.ensures
