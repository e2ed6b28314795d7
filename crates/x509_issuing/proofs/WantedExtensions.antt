-- Lists of wanted extensions; those of a builder have different OIDs, also together with those that
-- are added.
use Rattle.std.proofs.Common.{◌≡◌, ◌≢◌, ℕ, List, [], ◌∷◌, ◌++◌, Bool, true, false, ◌&&◌, ◌||◌, not}
use Rattle.std.proofs.Common.{Option, Some, None, refl, sym, ap, subst, ◌∙◌, append_assoc, append-nil}
use Rattle.std.specs.Prelude.{if◌then◌else◌, option_to_list}
use Rattle.std.specs.Str.{bytes_eq}
use Rattle.std.proofs.lemmas.Bool.{and_parts}
use Rattle.std.proofs.lemmas.Slice.Eq.{bytes_eq-Decides}
use Rattle.asn1_types.specs.Values.{identifier_contents}
use Rattle.asn1_types.specs.declared.oids.TheConstants.{CE_SUBJECT_KEY_IDENTIFIER, CE_KEY_USAGE, CE_SUBJECT_ALT_NAME, CE_ISSUER_ALT_NAME}
use Rattle.asn1_types.specs.declared.oids.TheConstants.{CE_BASIC_CONSTRAINTS, CE_AUTHORITY_KEY_IDENTIFIER, CE_EXT_KEY_USAGE}
use Rattle.extension_types.specs.declared.extended_key_usage.ExtendedKeyUsage.{ExtendedKeyUsage}
use Rattle.extension_types.specs.declared.key_usage.KeyUsage.{KeyUsage}
use Rattle.extension_types.specs.AuthorityKeyIdentifier.{key_of_identifier}
use Rattle.name_types.specs.declared.general_name.RawGeneralName.{RawGeneralName}
use Rattle.x509_types.specs.FirstOfValue.{NoneHas}
use Rattle.x509_types.specs.declared.extension.Extension.{Extension}
use Rattle.x509_types.specs.declared.extension.view.ExtensionView.{ExtensionView}
use Rattle.x509_types.specs.declared.extension.view.ExtensionView.TheVariants as views
use Rattle.x509_core.specs.Distinct.{AreDistinct}
use Rattle.x509_core.specs.FirstValue.{HasFirst}
use Rattle.x509_core.specs.SaidValues.{NamesKey}
use Rattle.x509_core.proofs.DistinctExtensions.{distinct_with, first_of_distinct}
use Rattle.x509_issuing.specs.Inherited.{has_one, with_one, with_others}
use Rattle.x509_issuing.specs.MadeExtensions.{WantedExtension, IsWantedExtension, AreWanted, AreBuilt, HasUses, IsConstraints}
use Rattle.x509_issuing.specs.MadeExtensions.{constraints_of, inherited, where_given, wanted, wanted_keys, wanted_names, wanted_uses}
use Rattle.x509_issuing.specs.declared.builder.CertificateBuilder.{CertificateBuilder}
use Rattle.x509_issuing.specs.declared.builder.IssuerInfos.{IssuerInfos}

pub wanted_both : (a b : List WantedExtension) (xs ys : List Extension) → AreWanted a xs → AreWanted b ys → AreWanted (a ++ b) (xs ++ ys)
wanted_both [] b [] ys p q = q
wanted_both [] b (x ∷ xs) ys p q = absurd p
wanted_both (w ∷ a) b [] ys p q = absurd p
wanted_both (w ∷ a) b (x ∷ xs) ys p q = (p.0, wanted_both a b xs ys p.1 q)

-- ---- different OIDs

differs : (a b : List ℕ) → bytes_eq a b ≡ false → a ≢ b
differs a b fails same = let yes : true ≡ false = sym ((bytes_eq-Decides a b).1 same) ∙ fails in absurd cc

or_parts : (a b : Bool) → (a || b) ≡ false → (a ≡ false) × (b ≡ false)
or_parts true b e = let no : true ≡ false = e in absurd cc
or_parts false b e = (refl, e)

not_parts : (a : Bool) → not a ≡ true → a ≡ false
not_parts true e = let no : false ≡ true = e in absurd cc
not_parts false e = refl

-- none of the wanted extensions has this OID, and no two have the same, as tests
abbrev lack : List ℕ → List WantedExtension → Bool
lack oid [] = true
lack oid (w ∷ others) = not (bytes_eq w.oid oid) && lack oid others

abbrev differ : List WantedExtension → Bool
differ [] = true
differ (w ∷ others) = lack w.oid others && differ others

none_of : (oid : List ℕ) (ws : List WantedExtension) (es : List Extension) → AreWanted ws es → lack oid ws ≡ true → NoneHas oid es
none_of oid [] [] are test = tt
none_of oid [] (e ∷ es) are test = absurd are
none_of oid (w ∷ ws) [] are test = absurd are
none_of oid (w ∷ ws) (e ∷ es) are test =
    let parts = and_parts _ _ test in
    (subst (λ (id : List ℕ). id ≢ oid) (sym are.0.named) (differs w.oid oid (not_parts _ parts.0)), none_of oid ws es are.1 parts.1)

distinct_of : (ws : List WantedExtension) (es : List Extension) → AreWanted ws es → differ ws ≡ true → AreDistinct es
distinct_of [] [] are test = tt
distinct_of [] (e ∷ es) are test = absurd are
distinct_of (w ∷ ws) [] are test = absurd are
distinct_of (w ∷ ws) (e ∷ es) are test =
    let parts = and_parts _ _ test in
    (subst (λ (id : List ℕ). NoneHas id es) (sym are.0.named) (none_of w.oid ws es are.1 parts.0), distinct_of ws es are.1 parts.1)

-- the extensions that a builder wants
abbrev all_wanted : Bool → ExtensionView → Option KeyUsage → Option ExtendedKeyUsage → Option (List RawGeneralName) → Option (List RawGeneralName)
    → (own authority : List ℕ) → List WantedExtension
all_wanted critical constraints uses purposes subject issuer own authority =
    (record { oid = CE_BASIC_CONSTRAINTS.now; critical = critical; value = constraints }
    ∷ (where_given CE_KEY_USAGE.now true views.KeyUsage uses ++ where_given CE_EXT_KEY_USAGE.now false views.ExtendedKeyUsage purposes))
    ++ ((where_given CE_SUBJECT_ALT_NAME.now false views.SubjectAltName subject ++ where_given CE_ISSUER_ALT_NAME.now false views.IssuerAltName issuer)
    ++ wanted_keys own authority)

all_differ : (critical : Bool) (constraints : ExtensionView) (uses : Option KeyUsage) (purposes : Option ExtendedKeyUsage)
    (subject issuer : Option (List RawGeneralName)) (own authority : List ℕ)
    → differ (all_wanted critical constraints uses purposes subject issuer own authority) ≡ true
all_differ critical constraints None None None None own authority = refl
all_differ critical constraints None None None (Some i) own authority = refl
all_differ critical constraints None None (Some s) None own authority = refl
all_differ critical constraints None None (Some s) (Some i) own authority = refl
all_differ critical constraints None (Some p) None None own authority = refl
all_differ critical constraints None (Some p) None (Some i) own authority = refl
all_differ critical constraints None (Some p) (Some s) None own authority = refl
all_differ critical constraints None (Some p) (Some s) (Some i) own authority = refl
all_differ critical constraints (Some u) None None None own authority = refl
all_differ critical constraints (Some u) None None (Some i) own authority = refl
all_differ critical constraints (Some u) None (Some s) None own authority = refl
all_differ critical constraints (Some u) None (Some s) (Some i) own authority = refl
all_differ critical constraints (Some u) (Some p) None None own authority = refl
all_differ critical constraints (Some u) (Some p) None (Some i) own authority = refl
all_differ critical constraints (Some u) (Some p) (Some s) None own authority = refl
all_differ critical constraints (Some u) (Some p) (Some s) (Some i) own authority = refl

made_distinct : (b : CertificateBuilder) (critical : Bool) (own authority : List ℕ) (made : List Extension) → AreWanted (wanted b critical own authority) made
    → AreDistinct made
made_distinct b critical own authority made are =
    distinct_of (wanted b critical own authority) made are
    (all_differ critical (constraints_of b) b.key_usage b.extended_key_usage b.subject_alt_name b.issuer_alt_name own authority)

-- ---- one more, and others

none_has : (es : List Extension) (oid : List ℕ) → has_one es oid ≡ false → NoneHas oid es
none_has [] oid test = tt
none_has (e ∷ es) oid test =
    let parts = or_parts _ _ test in
    (differs (identifier_contents e.extn_id) oid parts.0, none_has es oid parts.1)

distinct_or : (es : List Extension) (e : Extension) (t : Bool) → has_one es (identifier_contents e.extn_id) ≡ t → AreDistinct es
    → AreDistinct (if t then es else es ++ e ∷ [])
distinct_or es e true test distinct = distinct
distinct_or es e false test distinct = distinct_with es e distinct (none_has es (identifier_contents e.extn_id) test)

distinct_others : (es others : List Extension) → AreDistinct es → AreDistinct (with_others es others)
distinct_others es [] distinct = distinct
distinct_others es (e ∷ others) distinct = distinct_others (with_one es e) others (distinct_or es e (has_one es (identifier_contents e.extn_id)) refl distinct)

pub built_distinct : (b : CertificateBuilder) (issuer : IssuerInfos) (own authority : List ℕ) (es : List Extension) → AreBuilt b issuer own authority es
    → AreDistinct es
built_distinct b issuer own authority es built =
    subst AreDistinct (sym built.are)
    (distinct_others built.made (inherited issuer.self_signed b.inherits b.subject_infos)
    (made_distinct b built.critical own authority built.made built.are_made))

-- ---- the first with each OID

-- the wanted one, among others
found : (xs ys : List WantedExtension) (w : WantedExtension) (es : List Extension) → AreWanted (xs ++ w ∷ ys) es
    → (e : Extension) × (before : List Extension) × (after : List Extension) × (es ≡ before ++ e ∷ after) × IsWantedExtension w e
found [] ys w [] are = absurd are
found [] ys w (e ∷ es) are = (e, [], es, refl, are.0)
found (x ∷ xs) ys w [] are = absurd are
found (x ∷ xs) ys w (e ∷ es) are =
    let rest = found xs ys w es are.1 in
    (rest.0, e ∷ rest.1, rest.2, ap (λ (others : List Extension). e ∷ others) rest.3, rest.4)

stays_or : (es : List Extension) (e : Extension) (t : Bool) → (more : List Extension) × ((if t then es else es ++ e ∷ []) ≡ es ++ more)
stays_or es e true = ([], sym (append-nil es))
stays_or es e false = (e ∷ [], refl)

stays : (es others : List Extension) → (more : List Extension) × (with_others es others ≡ es ++ more)
stays es [] = ([], sym (append-nil es))
stays es (e ∷ others) =
    let one = stays_or es e (has_one es (identifier_contents e.extn_id)) in
    let all = stays (with_one es e) others in
    (one.0 ++ all.0, all.1 ∙ ap (λ (front : List Extension). front ++ all.0) one.1 ∙ append_assoc es one.0 all.0)

module _ (b : CertificateBuilder) (issuer : IssuerInfos) (own authority : List ℕ) (es : List Extension) (built : AreBuilt b issuer own authority es) where
  first_built : (xs ys : List WantedExtension) (w : WantedExtension) → wanted b built.critical own authority ≡ xs ++ w ∷ ys → HasFirst w.oid es w.value
  first_built xs ys w are =
      let at = found xs ys w built.made (subst (λ (ws : List WantedExtension). AreWanted ws built.made) are built.are_made) in
      let more = stays built.made (inherited issuer.self_signed b.inherits b.subject_infos) in
      first_of_distinct w.oid w.value es at.1 (at.2 ++ more.0) at.0 (built_distinct b issuer own authority es built)
      (built.are ∙ more.1 ∙ ap (λ (front : List Extension). front ++ more.0) at.3 ∙ append_assoc at.1 (at.0 ∷ at.2) more.0) at.4.named at.4.valued

  pub built_constrained : HasFirst CE_BASIC_CONSTRAINTS.now es (constraints_of b)
  built_constrained = first_built [] _ (record { oid = CE_BASIC_CONSTRAINTS.now; critical = built.critical; value = constraints_of b }) refl

  abbrev uses : List WantedExtension
  uses = wanted_uses b built.critical

  abbrev key_wanted : WantedExtension
  key_wanted = record { oid = CE_SUBJECT_KEY_IDENTIFIER.now; critical = false; value = views.SubjectKeyIdentifier own }

  abbrev authority_wanted : WantedExtension
  authority_wanted = record { oid = CE_AUTHORITY_KEY_IDENTIFIER.now; critical = false; value = views.AuthorityKeyIdentifier (key_of_identifier authority) }

  behind_names : wanted b built.critical own authority ≡ (uses ++ wanted_names b) ++ key_wanted ∷ authority_wanted ∷ []
  behind_names = sym (append_assoc uses (wanted_names b) (key_wanted ∷ authority_wanted ∷ []))

  pub built_key : HasFirst CE_SUBJECT_KEY_IDENTIFIER.now es (views.SubjectKeyIdentifier own)
  built_key = first_built (uses ++ wanted_names b) (authority_wanted ∷ []) key_wanted behind_names

  pub built_authority : NamesKey es authority
  built_authority = record {
    value = key_of_identifier authority;
    first = first_built ((uses ++ wanted_names b) ++ key_wanted ∷ []) [] authority_wanted
        (behind_names ∙ sym (append_assoc (uses ++ wanted_names b) (key_wanted ∷ []) (authority_wanted ∷ [])));
    named = refl;
  }

-- ---- put together

pub has_uses : (b : CertificateBuilder) (e : Extension) (usage purposes : Option Extension) (one two three : List Extension) → IsConstraints b e → one ≡ e ∷ []
    → AreWanted (where_given CE_KEY_USAGE.now true views.KeyUsage b.key_usage) (option_to_list usage) → two ≡ one ++ option_to_list usage
    → AreWanted (where_given CE_EXT_KEY_USAGE.now false views.ExtendedKeyUsage b.extended_key_usage) (option_to_list purposes)
    → three ≡ two ++ option_to_list purposes → HasUses b three
has_uses b e usage purposes one two three is first used second purposed third =
    let all : three ≡ ((e ∷ []) ++ option_to_list usage) ++ option_to_list purposes =
    third ∙ ap (λ (x : List Extension). x ++ option_to_list purposes) (second ∙ ap (λ (x : List Extension). x ++ option_to_list usage) first) in
    subst (HasUses b) (sym all) (record {
      critical = e.critical;
      flagged = is.flagged;
      are = (record { named = is.named; flagged = refl; valued = is.valued }, wanted_both _ _ (option_to_list usage) (option_to_list purposes) used purposed);
    })

pub all_built : (b : CertificateBuilder) (issuer : IssuerInfos) (own lent authority : List ℕ) (one two three all names keys others : List Extension)
    → HasUses b one
    → AreWanted (wanted_names b) names → two ≡ one ++ names → AreWanted (wanted_keys own lent) keys → three ≡ two ++ keys → lent ≡ authority
    → others ≡ inherited issuer.self_signed b.inherits b.subject_infos → all ≡ with_others three others → AreBuilt b issuer own authority all
all_built b issuer own lent authority one two three all names keys others uses named second keyed third same inherit last = record {
  critical = uses.critical;
  flagged = uses.flagged;
  made = one ++ (names ++ keys);
  are_made = wanted_both (wanted_uses b uses.critical) (wanted_names b ++ wanted_keys own authority) one (names ++ keys) uses.are
      (wanted_both (wanted_names b) (wanted_keys own authority) names keys named (subst (λ (a : List ℕ). AreWanted (wanted_keys own a) keys) same keyed));
  are = last ∙ ap (with_others three) inherit
      ∙ ap (λ (es : List Extension). with_others es (inherited issuer.self_signed b.inherits b.subject_infos))
      (third ∙ ap (λ (x : List Extension). x ++ keys) second ∙ append_assoc one names keys);
}
