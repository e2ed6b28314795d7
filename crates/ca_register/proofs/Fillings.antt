-- A register after one line more, and what refuses a line.
use Rattle.std.proofs.Common.{◌≡◌, ◌≢◌, ◌<◌, ◌≤◌, ◌⊎◌, ℕ, zero, suc, ◌+◌, false, List, [], ◌∷◌, ◌++◌, length, take, drop, map, slice_index_or}
use Rattle.std.proofs.Common.{Option, Some, None, option_map, Result, Ok, Err, IfOk, IfErr, MatchResult, inl, inr, refl, sym, ap, subst, ◌∙◌, arith}
use Rattle.std.specs.List.{AllByRecursion, slice_get}
use Rattle.std.proofs.lemmas.List.{length-append, length-map}
use Rattle.std.proofs.lemmas.Option.{slice_get-map, slice_get_read, slice_get_within}
use Rattle.asn1_types.specs.Integer.{IsUnsignedInteger}
use Rattle.asn1_types.specs.Values.{integer_contents}
use Rattle.der_core.specs.Steps.{AreTaken, IsFirstUntaken, RefusesBySteps}
use Rattle.key_core.specs.Keys.{info_of}
use Rattle.key_core.specs.PrivatePkcs1.{IsPrivatePkcs1}
use Rattle.key_core.specs.Signing.{IsKeyPair}
use Rattle.key_core.specs.declared.private_key.PrivateKey.{PrivateKey}
use Rattle.key_core.specs.declared.public_key.PublicKey.{PublicKey}
use Rattle.key_core.specs.declared.signature_error.SignatureError.{SignatureError}
use Rattle.key_core.specs.declared.signature_error.SignatureError.TheVariants as signature
use Rattle.name_types.specs.Name.{name}
use Rattle.names_core.specs.Names.{sets_of}
use Rattle.names_core.specs.declared.name.DirectoryName.{DirectoryName}
use Rattle.ca_register.specs.Owned.{line_held}
use Rattle.ca_register.specs.Lines.{IsLine, Line}
use Rattle.ca_register.specs.declared.text.line.RegisterLine.{RegisterLine}
use Rattle.x509_core.specs.Issued.{HasCert}
use Rattle.x509_core.specs.OwnedCertificate.{KeptCertificate}
use Rattle.x509_core.specs.declared.error.CertError.{CertError}
use Rattle.x509_core.specs.declared.error.CertError.TheVariants as cert_errors
use Rattle.x509_core.proofs.Chains.{map_more}
use Rattle.x509_core.proofs.GrowingHistories.{IsOldOrNew, old_or_new}
use Rattle.x509_core.proofs.Validity.{same_some}
use Rattle.x509_issuing.specs.declared.builder.CertificateBuilder.{CertificateBuilder}
use Rattle.x509_issuing.specs.declared.builder.SubjectInfos.TheVariants as subjects
use Rattle.ca_register.specs.Filling.{IsFilled, IsKeyAt}
use Rattle.ca_register.specs.Granting.{IsChildBuilder, IsRootBuilder}
use Rattle.ca_register.specs.Issuing.{Adds, IsBuiltBy, IsIssuedCert, child_steps, record_steps, root_step, root_steps, signed_steps}
use Rattle.ca_register.specs.LineCertificates.{AreForLines, IsAtIndex, IsForLine, common_name}
use Rattle.ca_register.specs.LineEntries.{AreIssuable, IsFirstRefused, IsIssuable, entries_of, entry_of, grant_of, steps_after}
use Rattle.ca_register.specs.LineKeys.{AreLineKeys, key_secret}
use Rattle.ca_register.specs.Refusals.{unbuilt, wrong_key}
use Rattle.ca_register.specs.declared.entry.Entry.{Entry}
use Rattle.ca_register.specs.declared.entry.Grant.{Grant}
use Rattle.ca_register.specs.declared.error.IssueError.{IssueError}
use Rattle.ca_register.specs.declared.error.IssueError.TheVariants as errors
use Rattle.ca_register.proofs.FirstRefusals.{Begins, IsSame, where_first}
use Rattle.key_core.specs.SmallKeys.{demo_pair, demo_arithmetic}
use Rattle.ca_register.proofs.LineBuilders.{child_set, root_set}
use Rattle.ca_register.proofs.LineBuilds.{built_for, numbered, untaken_for_memory}
use Rattle.key_core.proofs.SmallHalves.{pairs}
use Rattle.ca_register.proofs.LineSubjects.{one_octet}

-- ---- a list cut at an index

pub cut_at : {A : Type 0} (items : List A) (place : ℕ) (item : A) → slice_get items place ≡ Some item
    → items ≡ take place items ++ item ∷ drop (suc place) items
cut_at [] place item e = absurd cc
cut_at (first ∷ items) zero item e = ap (λ x. x ∷ items) (same_some first item e)
cut_at (first ∷ items) (suc place) item e = ap (λ xs. first ∷ xs) (cut_at items place item e)

pub one_later : {A : Type 0} (items : List A) (place : ℕ) (item : A) → slice_get items place ≡ Some item
    → take (suc place) items ≡ take place items ++ item ∷ []
one_later [] place item e = absurd cc
one_later (first ∷ items) zero item e = ap (λ x. x ∷ []) (same_some first item e)
one_later (first ∷ items) (suc place) item e = ap (λ xs. first ∷ xs) (one_later items place item e)

pub before_at : {A : Type 0} (items : List A) (place : ℕ) → place ≤ length items → length (take place items) ≡ place
before_at [] zero within = refl
before_at [] (suc place) within = absurd (omega (arith, within))
before_at (first ∷ items) zero within = refl
before_at (first ∷ items) (suc place) within = omega (arith, before_at items place (omega (arith, within)))

pub still_in : {A : Type 0} (items : List A) (place index : ℕ) (item : A) → slice_get (take place items) index ≡ Some item → slice_get items index ≡ Some item
still_in [] zero index item e = e
still_in [] (suc place) index item e = e
still_in (first ∷ items) zero index item e = absurd cc
still_in (first ∷ items) (suc place) zero item e = e
still_in (first ∷ items) (suc place) (suc index) item e = still_in items place index item e

pub holds_at : {A : Type 0} (P : A → Type 0) (items : List A) (place : ℕ) (item : A) → AllByRecursion P items → slice_get items place ≡ Some item → P item
holds_at P [] place item all e = absurd cc
holds_at P (first ∷ items) zero item all e = subst P (same_some first item e) all.0
holds_at P (first ∷ items) (suc place) item all e = holds_at P items place item all.1 e

found_at : {A : Type 0} (items : List A) (place : ℕ) → place < length items → (item : A) × (slice_get items place ≡ Some item)
found_at [] place within = absurd (omega (arith, within))
found_at (first ∷ items) zero within = (first, refl)
found_at (first ∷ items) (suc place) within = found_at items place (omega (arith, within))

-- ---- one line more

-- lines that end with one more are issued if it is, after them
all_issuable : (lines : List Line) (line : Line) → AreIssuable lines → IsIssuable lines line → AreIssuable (lines ++ line ∷ [])
all_issuable lines line issuable next ahead behind other are = by (where_first lines [] ahead behind line other are)
  where
    by : IsSame lines ahead line other ⊎ (Begins lines [] ahead behind line other ⊎ Begins ahead behind lines [] other line) → IsIssuable ahead other
    by (inl same) = subst (λ (l : Line). IsIssuable ahead l) same.line_is (subst (λ (ls : List Line). IsIssuable ls line) same.ahead_is next)
    by (inr (inl longer)) =
        let whole = ap (λ (ls : List Line). length ls) are in
        let ahead_is = ap (λ (ls : List Line). length ls) longer.is in
        absurd
        (omega (arith, whole, ahead_is, length-append lines (line ∷ []), length-append ahead (other ∷ behind), length-append lines (line ∷ longer.between)))
    by (inr (inr within)) = issuable ahead within.between other within.is

all_for : (lines : List Line) (certificates : List KeptCertificate) (line : Line) (cert : KeptCertificate) → length certificates ≡ length lines
    → AreForLines lines certificates → IsAtIndex (length lines) line cert
    → AreForLines (lines ++ line ∷ []) (certificates ++ cert ∷ [])
all_for lines certificates line cert all each for place other found at has =
    by (old_or_new lines line place other at) (old_or_new certificates cert place found has)
  where
    by : IsOldOrNew lines line place other → IsOldOrNew certificates cert place found → IsAtIndex place other found
    by (inl old) (inl kept) = each place other found old kept
    by (inl old) (inr (here, same)) = absurd (omega (arith, slice_get_within lines place other old, here, all))
    by (inr (here, same)) (inl kept) = absurd (omega (arith, slice_get_within certificates place found kept, here, all))
    by (inr (here, same)) (inr (there, also)) = subst (λ (c : KeptCertificate). IsAtIndex place other c) (sym also)
        (subst (λ (l : Line). IsAtIndex place l cert) (sym same) (subst (λ (n : ℕ). IsAtIndex n line cert) (sym here) for))

entries_more : (lines : List Line) (line : Line) → entries_of (lines ++ line ∷ []) ≡ entries_of lines ++ entry_of line ∷ []
entries_more lines line = map_more entry_of lines line

entry_is : (line : Line) (issuer : Option ℕ) (grant : Grant) → line.issuer ≡ issuer → grant ≡ grant_of line
    → ◌≡◌ {A = Entry} (record { issuer = issuer; grant = grant }) (entry_of line)
entry_is line issuer grant by same = λ i. record { issuer = sym by i; grant = same i }

-- the lines up to an index, and the register that was filled with them
module _ (lines : List Line) (place : ℕ) (line : Line) (at : slice_get lines place ≡ Some line) (entries : List Entry) (certificates : List KeptCertificate)
    (filled : IsFilled (take place lines) entries certificates) where
  abbrev Ahead : List Line
  Ahead = take place lines

  pub as_many : length entries ≡ place
  as_many =
      let within = slice_get_within lines place line at in
      ap (λ (es : List Entry). length es) filled.recorded ∙ length-map Ahead entry_of ∙ before_at lines place (omega (arith, within))

  pub next_filled : (issuer : Option ℕ) (grant : Grant) (IsCert : KeptCertificate → Type 0) (more : List Entry) (longer : List KeptCertificate)
      (at_place next : ℕ) → next ≡ suc place → length certificates ≡ length entries
      → line.issuer ≡ issuer → grant ≡ grant_of line → Adds (record { issuer = issuer; grant = grant }) IsCert entries more certificates longer at_place
      → ((cert : KeptCertificate) → IsCert cert → IsAtIndex place line cert) → AreTaken (steps_after entries issuer grant)
      → IsFilled (take next lines) more longer
  next_filled issuer grant IsCert more longer at_place next is_next all by same added for taken =
      let begins = ap (λ (n : ℕ). take n lines) is_next ∙ one_later lines place line at in
      let steps = subst (λ (o : Option ℕ). AreTaken (steps_after entries o grant)) (sym by) taken in
      let own = subst (λ (g : Grant). AreTaken (steps_after entries line.issuer g)) same steps in
      let issuable : IsIssuable Ahead line = subst (λ (es : List Entry). AreTaken (steps_after es line.issuer (grant_of line))) filled.recorded own in
      let ahead_is : length Ahead ≡ place = before_at lines place (omega (arith, slice_get_within lines place line at)) in
      let many : length certificates ≡ length Ahead = all ∙ ap (λ (es : List Entry). length es) filled.recorded ∙ length-map Ahead entry_of in
      subst (λ (ls : List Line). IsFilled ls more longer) (sym begins) (record {
        recorded = added.recorded ∙ ap (λ (es : List Entry). es ++ record { issuer = issuer; grant = grant } ∷ []) filled.recorded
            ∙ ap (λ (e : Entry). entries_of Ahead ++ e ∷ []) (entry_is line issuer grant by same) ∙ sym (entries_more Ahead line);
        issuable = all_issuable Ahead line filled.issuable issuable;
        each = subst (λ (cs : List KeptCertificate). AreForLines (Ahead ++ line ∷ []) cs) (sym added.kept) (all_for Ahead certificates line added.cert many
            filled.each (subst (λ (n : ℕ). IsAtIndex n line added.cert) (sym ahead_is) (for added.cert added.is)));
      })

  pub first_refused : (issuer : Option ℕ) (grant : Grant) (e : IssueError) → line.issuer ≡ issuer → grant ≡ grant_of line
      → IsFirstUntaken (steps_after entries issuer grant) e → IsFirstRefused lines e
  first_refused issuer grant e by same untaken =
      let steps = subst (λ (o : Option ℕ). IsFirstUntaken (steps_after entries o grant) e) (sym by) untaken in
      let own = subst (λ (g : Grant). IsFirstUntaken (steps_after entries line.issuer g) e) same steps in
      record {
        ahead = Ahead;
        refused = line;
        behind = drop (suc place) lines;
        are = cut_at lines place line at;
        issued = filled.issuable;
        reason = subst (λ (es : List Entry). IsFirstUntaken (steps_after es line.issuer (grant_of line)) e) filled.recorded own;
      }

  -- the line of an issuer
  pub record IsSigner (issuer : ℕ) (parent : KeptCertificate) : Type 0 where
    pub signer : Line
    pub at_issuer : slice_get lines issuer ≡ Some signer
    pub for : IsForLine signer parent

  pub signer_at : (issuer : ℕ) (parent : KeptCertificate) → length certificates ≡ length entries → HasCert certificates issuer parent → IsSigner issuer parent
  signer_at issuer parent all has =
      let within = slice_get_within certificates issuer parent has in
      let many = before_at lines place (omega (arith, slice_get_within lines place line at)) in
      let found = found_at Ahead issuer (omega (arith, within, all, as_many, many)) in
      record { signer = found.0; at_issuer = still_in lines place issuer found.0 found.1; for = (filled.each issuer found.0 parent found.1 has).for }

-- ---- what refuses a root

unbuilt_memory : (source : CertError) (e : IssueError) → e ≡ unbuilt source → source ≡ cert_errors.Memory → e ≡ errors.Memory
unbuilt_memory source e is memory = is ∙ ap unbuilt memory

module _ (line : Line) (short : length line.name ≤ 64) (place word : ℕ) (word_is : word ≡ place + 1) (small : word < 256) (grant : Grant)
    (given : DirectoryName) (named : name (sets_of given) ≡ common_name line.name) where
  module _ (key : PrivateKey) (private : IsPrivatePkcs1 (key_secret line.key) key) where
    pub root_refused : (e : IssueError) → RefusesBySteps errors.Memory (root_steps demo_arithmetic word grant (IsRootBuilder grant given key)) e
        → e ≢ errors.Memory → IsFirstUntaken (root_step grant ∷ []) e
    root_refused e (inr memory) other = absurd (other memory)
    root_refused e (inl (inl refused)) other = inl refused
    root_refused e (inl (inr (taken, inl (b, is, (source, same, untaken))))) other =
        absurd (other (unbuilt_memory source e same
        (untaken_for_memory line line b is.issuer (root_set grant given key line b is named private) word small short short source untaken)))
    root_refused e (inl (inr (taken, inr (built, none)))) other = absurd none

    pub root_for : (cert : KeptCertificate) → IsBuiltBy demo_arithmetic word (IsRootBuilder grant given key) cert → IsAtIndex place line cert
    root_for cert by = record {
      for = built_for line line by.builder by.is.issuer (root_set grant given key line by.builder by.is named private) word cert by.built;
      numbered = subst (λ (n : ℕ). IsUnsignedInteger n (integer_contents cert.certificate.tbs_certificate.serial_number)) word_is
          (numbered grant by.builder word cert by.is.granted (omega (arith, word_is)) by.built);
    }

  -- ---- what refuses a child

  module _ (own : PublicKey) (private : PrivateKey) (keys : AreLineKeys line.key private (info_of own)) (signs : PrivateKey)
      (certificates : List KeptCertificate) (issuer : ℕ) (signer : (parent : KeptCertificate) → HasCert certificates issuer parent
      → (s : Line) × IsForLine s parent × (length s.name ≤ 64) × IsPrivatePkcs1 (key_secret s.key) signs) where
    abbrev IsChild : KeptCertificate → CertificateBuilder → Type 0
    IsChild = IsChildBuilder grant (subjects.Named given own) false signs

    pub signer_pairs : (parent : KeptCertificate) → HasCert certificates issuer parent
        → IsKeyPair demo_pair signs parent.certificate.tbs_certificate.subject_public_key_info
    signer_pairs parent has =
        let of = signer parent has in
        pairs (of.0.key ∷ []) (one_octet of.0.key) of.1.private signs parent.certificate.tbs_certificate.subject_public_key_info of.1.keys of.3

    -- the error isn't that the key is wrong
    abbrev Right : IssueError → Type 0
    Right e = (parent : KeptCertificate) → HasCert certificates issuer parent → (source : SignatureError) → e ≡ errors.WrongKey source → ⊥

    never_built : (e : IssueError) → IsFirstUntaken (signed_steps demo_arithmetic word certificates issuer IsChild) e → e ≢ errors.Memory → Right e → ⊥
    never_built e (inl (parent, b, has, is, (source, same, untaken))) other right =
        let of = signer parent has in
        other (unbuilt_memory source e same
        (untaken_for_memory of.0 line b is.issuer (child_set grant given own private signs parent of.0 line b is of.1 named keys of.3)
        word small short of.2 source untaken))
    never_built e (inr (built, inl (cert, under, (source, same, bad)))) other right = by source same
      where
        by : (source : SignatureError) → e ≡ wrong_key source → ⊥
        by signature.Memory is = other is
        by (signature.Key s) is = right under.parent under.has (signature.Key s) is
        by (signature.Rsa s) is = right under.parent under.has (signature.Rsa s) is
        by (signature.Ec s) is = right under.parent under.has (signature.Ec s) is
        by (signature.Ed s) is = right under.parent under.has (signature.Ed s) is
        by signature.BadSignature is = right under.parent under.has signature.BadSignature is
        by (signature.UnsupportedAlgorithm s) is = right under.parent under.has (signature.UnsupportedAlgorithm s) is
    never_built e (inr (built, inr (signed, none))) other right = none

    pub child_refused : (entries : List Entry) (e : IssueError)
        → RefusesBySteps errors.Memory (child_steps demo_arithmetic word certificates issuer IsChild entries) e → e ≢ errors.Memory
        → Right e → IsFirstUntaken (record_steps entries issuer) e
    child_refused entries e (inr memory) other right = absurd (other memory)
    child_refused entries e (inl (inl refused)) other right = inl refused
    child_refused entries e (inl (inr (taken, inl refused))) other right = inr (taken, inl refused)
    child_refused entries e (inl (inr (taken, inr (able, inl refused)))) other right = inr (taken, inr (able, inl refused))
    child_refused entries e (inl (inr (taken, inr (able, inr (deep, signed))))) other right = absurd (never_built e signed other right)

    pub child_taken : (entries : List Entry) → AreTaken (child_steps demo_arithmetic word certificates issuer IsChild entries)
        → AreTaken (record_steps entries issuer)
    child_taken entries taken = (taken.0, (taken.1.0, (taken.1.1.0, tt)))

    pub child_for : (cert : KeptCertificate) → IsIssuedCert demo_arithmetic word certificates issuer IsChild cert → IsAtIndex place line cert
    child_for cert is =
        let under = is.under in
        let by = under.by in
        let of = signer under.parent under.has in
        record {
          for = built_for of.0 line by.builder by.is.issuer
              (child_set grant given own private signs under.parent of.0 line by.builder by.is of.1 named keys of.3) word cert by.built;
          numbered = subst (λ (n : ℕ). IsUnsignedInteger n (integer_contents cert.certificate.tbs_certificate.serial_number)) word_is
              (numbered grant by.builder word cert by.is.for.granted (omega (arith, word_is)) by.built);
        }

-- ---- no line yet

nothing_in : (ahead behind : List Line) (line : Line) → ◌≡◌ {A = List Line} [] (ahead ++ line ∷ behind) → ⊥
nothing_in [] behind line e = absurd cc
nothing_in (first ∷ ahead) behind line e = absurd cc

nothing_at : (place : ℕ) (line : Line) → slice_get {X = Line} [] place ≡ Some line → ⊥
nothing_at place line e = absurd cc

empty_filled : IsFilled [] [] []
empty_filled = record {
  recorded = refl;
  issuable = λ ahead behind line are. absurd (nothing_in ahead behind line are);
  each = λ place line cert at has. absurd (nothing_at place line at);
}

pub no_lines : (lines : List Line) (entries : List Entry) (certificates : List KeptCertificate) → entries ≡ [] → certificates ≡ []
    → IsFilled (take 0 lines) entries certificates
no_lines lines entries certificates none also =
    subst (λ (es : List Entry). IsFilled [] es certificates) (sym none) (subst (λ (cs : List KeptCertificate). IsFilled [] [] cs) (sym also) empty_filled)

-- the line at an index, as it is stored
pub line_at : (lines : List RegisterLine) (place : ℕ) (held : RegisterLine) → place < length lines → held ≡ slice_index_or lines place held
    → slice_get (map line_held lines) place ≡ Some (line_held held)
line_at lines place held within read =
    slice_get-map line_held lines place ∙ ap (option_map line_held) (slice_get_read lines (length lines) place held refl within read)

-- ---- results

pub ok_holds : {A E : Type 0} (P : A → Type 0) (Q : E → Type 0) (r : Result A E) (x : A) → r ≡ Ok x → MatchResult r P Q → P x
ok_holds P Q (Ok y) x is h = subst P (ok_once y x is) h
  where
    ok_once : {A E : Type 0} (a b : A) → ◌≡◌ {A = Result A E} (Ok a) (Ok b) → a ≡ b
    ok_once a b e = cc
ok_holds P Q (Err e) x is h = absurd cc

-- what an issued root leads to
module _ (lines : List Line) (place : ℕ) (line : Line) (at : slice_get lines place ≡ Some line) (of : IsLine line) (root : line.issuer ≡ None) (word next : ℕ)
    (word_is : word ≡ place + 1) (next_is : next ≡ suc place) (small : word < 256)
    (grant : Grant) (granted : grant ≡ grant_of line) (given : DirectoryName) (named : name (sets_of given) ≡ common_name line.name) (key : PrivateKey)
    (private : IsPrivatePkcs1 (key_secret line.key) key)
    (entries : List Entry) (certificates : List KeptCertificate) (all : length certificates ≡ length entries)
    (filled : IsFilled (take place lines) entries certificates) where
  abbrev RootAnswer : Result ℕ IssueError → Type 0
  RootAnswer r = MatchResult r (λ _. AreTaken (root_steps demo_arithmetic word grant (IsRootBuilder grant given key)))
      (RefusesBySteps errors.Memory (root_steps demo_arithmetic word grant (IsRootBuilder grant given key)))

  pub root_filled : (r : Result ℕ IssueError) (more : List Entry) (longer : List KeptCertificate) → RootAnswer r
      →
      IfOk r (Adds (record { issuer = None; grant = grant }) (IsBuiltBy demo_arithmetic word (IsRootBuilder grant given key)) entries more certificates longer)
      → IfOk r (λ _. IsFilled (take next lines) more longer)
  root_filled (Ok x) more longer taken added =
      next_filled lines place line at entries certificates filled None grant (IsBuiltBy demo_arithmetic word (IsRootBuilder grant given key))
      more longer x next next_is all root granted added
      (root_for line of.name.most place word word_is small grant given named key private) (taken.0, tt)
  root_filled (Err e) more longer taken added = tt

  pub root_unfilled : (r : Result ℕ IssueError) → RootAnswer r → IfErr r (λ e. e ≢ errors.Memory → IsFirstRefused lines e)
  root_unfilled (Ok x) taken = tt
  root_unfilled (Err e) refused = λ other.
      first_refused lines place line at entries certificates filled None grant e root granted
      (root_refused line of.name.most place word word_is small grant given named key private e refused other)

-- what an issued child leads to
module _ (lines : List Line) (place : ℕ) (line : Line) (at : slice_get lines place ≡ Some line) (each : AllByRecursion IsLine lines) (issuer : ℕ)
    (by : line.issuer ≡ Some issuer) (word next : ℕ) (word_is : word ≡ place + 1) (next_is : next ≡ suc place) (small : word < 256)
    (grant : Grant) (granted : grant ≡ grant_of line) (given : DirectoryName) (named : name (sets_of given) ≡ common_name line.name) (own : PublicKey)
    (keys : (private : PrivateKey) × AreLineKeys line.key private (info_of own))
    (number : ℕ) (key_at : IsKeyAt lines issuer number) (signs : PrivateKey) (private : IsPrivatePkcs1 (key_secret number) signs)
    (entries : List Entry) (certificates : List KeptCertificate) (all : length certificates ≡ length entries)
    (filled : IsFilled (take place lines) entries certificates) where
  of_line : IsLine line
  of_line = holds_at IsLine lines place line each at

  signer : (parent : KeptCertificate) → HasCert certificates issuer parent
      → (s : Line) × IsForLine s parent × (length s.name ≤ 64) × IsPrivatePkcs1 (key_secret s.key) signs
  signer parent has =
      let found = signer_at lines place line at entries certificates filled issuer parent all has in
      let read = holds_at IsLine lines issuer found.signer each found.at_issuer in
      (found.signer, found.for, read.name.most, subst (λ (k : ℕ). IsPrivatePkcs1 (key_secret k) signs) (key_at found.signer found.at_issuer) private)

  abbrev IsGivenChild : KeptCertificate → CertificateBuilder → Type 0
  IsGivenChild = IsChildBuilder grant (subjects.Named given own) false signs

  abbrev ChildAnswer : Result ℕ IssueError → Type 0
  ChildAnswer r = MatchResult r (λ _. AreTaken (child_steps demo_arithmetic word certificates issuer IsGivenChild entries))
      (RefusesBySteps errors.Memory (child_steps demo_arithmetic word certificates issuer IsGivenChild entries))

  pub child_filled : (r : Result ℕ IssueError) (more : List Entry) (longer : List KeptCertificate) → ChildAnswer r
      → IfOk r (Adds (record { issuer = Some issuer; grant = grant }) (IsIssuedCert demo_arithmetic word certificates issuer IsGivenChild)
      entries more certificates longer)
      → IfOk r (λ _. IsFilled (take next lines) more longer)
  child_filled (Ok x) more longer taken added =
      next_filled lines place line at entries certificates filled (Some issuer) grant (IsIssuedCert demo_arithmetic word certificates issuer IsGivenChild)
      more longer x next next_is all by granted added
      (child_for line of_line.name.most place word word_is small grant given named own keys.0 keys.1 signs certificates issuer signer)
      (child_taken line of_line.name.most place word word_is small grant given named own keys.0 keys.1 signs certificates issuer signer entries taken)
  child_filled (Err e) more longer taken added = tt

  pub child_unfilled : (r : Result ℕ IssueError) → ChildAnswer r
      → ((parent : KeptCertificate) (source : SignatureError) → HasCert certificates issuer parent
      → IsKeyPair demo_pair signs parent.certificate.tbs_certificate.subject_public_key_info → r ≡ Err (errors.WrongKey source) → ⊥)
      → IfErr r (λ e. e ≢ errors.Memory → IsFirstRefused lines e)
  child_unfilled (Ok x) taken paired = tt
  child_unfilled (Err e) refused paired = λ other.
      first_refused lines place line at entries certificates filled (Some issuer) grant e by granted
      (child_refused line of_line.name.most place word word_is small grant given named own keys.0 keys.1 signs certificates issuer signer entries e
      refused other
      (λ parent has source is. paired parent source has (signer_pairs line of_line.name.most place word word_is small grant given named own keys.0 keys.1 signs
      certificates issuer signer parent has) (ap Err is)))
