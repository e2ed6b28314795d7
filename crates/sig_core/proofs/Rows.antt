-- The line of a row parses unambiguously, and so do the lines of a table.
use Rattle.std.proofs.Common.{◌≡◌, ◌≢◌, ℕ, List, [], ◌∷◌, ◌++◌, length, refl, sym, ◌∙◌, ap, ap₂, append_assoc, length-append, get_or, arith}
use Rattle.std.specs.List.{AllByRecursion}
use Rattle.std.proofs.lemmas.List.{append_cancel_left}
use Rattle.hex.specs.Hex.{encode_lower}
use Rattle.sig_core.specs.declared.algorithm.SigAlg.{SigAlg}
use Rattle.sig_core.specs.declared.scheme.Verdict.{Verdict}
use Rattle.sig_core.specs.declared.scheme.Verdict.TheVariants.{Accept, Reject, Malformed}
use Rattle.sig_core.specs.declared.verdict_row.SignatureDigests.{SignatureDigests}
use Rattle.sig_core.specs.declared.verdict_row.TableVersion.{TableVersion}
use Rattle.sig_core.specs.declared.verdict_row.TableVersion.TheVariants.{One, Two}
use Rattle.sig_core.specs.declared.verdict_row.VerdictRow.{VerdictRow}
use Rattle.sig_core.specs.Algorithm.{name_of}
use Rattle.sig_core.specs.VerdictTable.{IsDigest, AreDigests, IsRow, AdmitsVerdict, signature_line, line_of, lines_of}
use Rattle.sig_core.specs.VerdictTable.{verdict_word, space, newline, BeginsWithNoSignature, BeginsWithNoLine}
use Rattle.sig_core.proofs.Names.{name_once}
use Rattle.sig_core.proofs.Lines.{digits_same, take-digits, drop-digits}

-- what follows the name in a line, the first digest, and the second
abbrev pub after_name : SignatureDigests → List ℕ → List ℕ
after_name signature after =
    encode_lower signature.key ++ space ∷ (encode_lower signature.msg ++ space ∷ (encode_lower signature.sig ++ newline ∷ after))

pub signature_parts : (signature : SignatureDigests) (after : List ℕ)
    → signature_line signature ++ after ≡ name_of signature.alg ++ space ∷ after_name signature after
signature_parts signature after = joined (name_of signature.alg) (encode_lower signature.key) (encode_lower signature.msg) (encode_lower signature.sig) after
  where
    joined : (n k m s after : List ℕ) → n ++ space ∷ k ++ space ∷ m ++ space ∷ s ++ newline ∷ [] ++ after
        ≡ n ++ space ∷ (k ++ space ∷ (m ++ space ∷ (s ++ newline ∷ after)))
    joined n k m s after =
        append_assoc (n ++ space ∷ k ++ space ∷ m ++ space ∷ s) (newline ∷ []) after
        ∙ append_assoc (n ++ space ∷ k ++ space ∷ m) (space ∷ s) (newline ∷ after)
        ∙ append_assoc (n ++ space ∷ k) (space ∷ m) (space ∷ (s ++ newline ∷ after))
        ∙ append_assoc n (space ∷ k) (space ∷ (m ++ space ∷ (s ++ newline ∷ after)))

-- digits and an octet parse unambiguously
pub digits_once : (a b x y : List ℕ) (end : ℕ) → IsDigest a → IsDigest b
    → encode_lower a ++ end ∷ x ≡ encode_lower b ++ end ∷ y → (a ≡ b) × (x ≡ y)
digits_once a b x y end ha hb e =
    let digits = sym (take-digits a (end ∷ x) _ ha refl) ∙ take-digits b (end ∷ y) _ hb e in
    let tails = sym (drop-digits a (end ∷ x) _ ha refl) ∙ drop-digits b (end ∷ y) _ hb e in
    (digits_same a b ha hb digits, cc)

-- no digest follows the name and the first digest
pub no_message : (text t1 t2 key : List ℕ) (alg : SigAlg) → text ≡ name_of alg ++ space ∷ t1
    → IsDigest key → t1 ≡ encode_lower key ++ space ∷ t2
    → ((digest after : List ℕ) → IsDigest digest → t2 ≢ encode_lower digest ++ space ∷ after) → BeginsWithNoSignature text
no_message text t1 t2 key alg e hk ek none signature after h begins =
    let one = name_once alg signature.alg t1 _ (sym e ∙ begins ∙ signature_parts signature after) in
    let two = digits_once key signature.key t2 _ space hk h.0 (sym ek ∙ one.1) in
    none signature.msg _ h.1 two.1

-- no digest follows the name and two digests
pub no_signature : (text t1 t2 t3 key msg : List ℕ) (alg : SigAlg) → text ≡ name_of alg ++ space ∷ t1
    → IsDigest key → t1 ≡ encode_lower key ++ space ∷ t2
    → IsDigest msg → t2 ≡ encode_lower msg ++ space ∷ t3
    → ((digest after : List ℕ) → IsDigest digest → t3 ≢ encode_lower digest ++ newline ∷ after) → BeginsWithNoSignature text
no_signature text t1 t2 t3 key msg alg e hk ek hm em none signature after h begins =
    let one = name_once alg signature.alg t1 _ (sym e ∙ begins ∙ signature_parts signature after) in
    let two = digits_once key signature.key t2 _ space hk h.0 (sym ek ∙ one.1) in
    let three = digits_once msg signature.msg t3 _ space hm h.1 (sym em ∙ two.1) in
    none signature.sig _ h.2 three.1

-- signatures with the same parts are the same
pub same_parts : (a b : SignatureDigests) → a.alg ≡ b.alg → a.key ≡ b.key → a.msg ≡ b.msg → a.sig ≡ b.sig → a ≡ b
same_parts a b alg key msg sig =
    ap (λ x. record a { alg = x }) alg ∙ ap (λ x. record a { alg = b.alg; key = x }) key
    ∙ ap (λ x. record b { msg = x; sig = a.sig }) msg ∙ ap (λ x. record b { sig = x }) sig

-- a line parses unambiguously
pub signature_once : (a b : SignatureDigests) (x y : List ℕ) → AreDigests a → AreDigests b → signature_line a ++ x ≡ signature_line b ++ y → (a ≡ b) × (x ≡ y)
signature_once a b x y ha hb e =
    let one = name_once a.alg b.alg _ _ (sym (signature_parts a x) ∙ e ∙ signature_parts b y) in
    let two = digits_once a.key b.key _ _ space ha.0 hb.0 one.1 in
    let three = digits_once a.msg b.msg _ _ space ha.1 hb.1 two.1 in
    let four = digits_once a.sig b.sig x y newline ha.2 hb.2 three.1 in
    (same_parts a b one.0 two.0 three.0 four.0, four.1)

-- and so does the word before it
words_once : (version : TableVersion) (a b : Verdict) (x y : List ℕ) → AdmitsVerdict version a → AdmitsVerdict version b
    → verdict_word version a ++ x ≡ verdict_word version b ++ y → (a ≡ b) × (x ≡ y)
words_once One a b x y ha hb e = (ha ∙ sym hb, e)
words_once Two Accept Accept x y ha hb e = (refl, append_cancel_left (verdict_word Two Accept) x y e)
words_once Two Reject Reject x y ha hb e = (refl, append_cancel_left (verdict_word Two Reject) x y e)
words_once Two Malformed Malformed x y ha hb e = (refl, append_cancel_left (verdict_word Two Malformed) x y e)
words_once Two Accept Reject x y ha hb e = let first : 97 ≡ 114 = ap (λ t. get_or t 0 0) e in absurd (omega (arith, first))
words_once Two Accept Malformed x y ha hb e = let first : 97 ≡ 109 = ap (λ t. get_or t 0 0) e in absurd (omega (arith, first))
words_once Two Reject Accept x y ha hb e = let first : 114 ≡ 97 = ap (λ t. get_or t 0 0) e in absurd (omega (arith, first))
words_once Two Reject Malformed x y ha hb e = let first : 114 ≡ 109 = ap (λ t. get_or t 0 0) e in absurd (omega (arith, first))
words_once Two Malformed Accept x y ha hb e = let first : 109 ≡ 97 = ap (λ t. get_or t 0 0) e in absurd (omega (arith, first))
words_once Two Malformed Reject x y ha hb e = let first : 109 ≡ 114 = ap (λ t. get_or t 0 0) e in absurd (omega (arith, first))

-- a row parses unambiguously
pub line_once : (version : TableVersion) (a b : VerdictRow) (x y : List ℕ) → IsRow version a → IsRow version b
    → line_of version a ++ x ≡ line_of version b ++ y → (a ≡ b) × (x ≡ y)
line_once version a b x y ha hb e =
    let word = words_once version a.verdict b.verdict _ _ ha.0 hb.0
    (sym (append_assoc (verdict_word version a.verdict) (signature_line a.signature) x) ∙ e
    ∙ append_assoc (verdict_word version b.verdict) (signature_line b.signature) y) in
    let line = signature_once a.signature b.signature x y ha.1 hb.1 word.1 in
    (ap (λ v. record a { verdict = v }) word.0 ∙ ap (λ s. record b { signature = s }) line.0, line.1)

-- without a verdict there is no row
pub no_verdict : (version : TableVersion) (text : List ℕ)
    → ((verdict : Verdict) (after : List ℕ) → AdmitsVerdict version verdict → text ≢ verdict_word version verdict ++ after)
    → BeginsWithNoLine version text
no_verdict version text none row after h begins =
    none row.verdict _ h.0 (begins ∙ append_assoc (verdict_word version row.verdict) (signature_line row.signature) after)

-- nor without a signature after it
pub no_named : (version : TableVersion) (verdict : Verdict) (text rest : List ℕ) → AdmitsVerdict version verdict
    → text ≡ verdict_word version verdict ++ rest → BeginsWithNoSignature rest → BeginsWithNoLine version text
no_named version verdict text rest h e none row after is begins =
    let word = words_once version verdict row.verdict rest _ h is.0
    (sym e ∙ begins ∙ append_assoc (verdict_word version row.verdict) (signature_line row.signature) after) in
    none row.signature after is.1 word.1

-- lines parse unambiguously, up to where no line begins
pub lines_once : (version : TableVersion) (ps qs : List VerdictRow) (x y : List ℕ) → AllByRecursion (IsRow version) ps → AllByRecursion (IsRow version) qs
    → BeginsWithNoLine version x → BeginsWithNoLine version y → lines_of version ps ++ x ≡ lines_of version qs ++ y → (ps ≡ qs) × (x ≡ y)
lines_once version [] [] x y hp hq nx ny e = (refl, e)
lines_once version [] (q ∷ qs) x y hp hq nx ny e = absurd (nx q (lines_of version qs ++ y) hq.0 (e ∙ append_assoc (line_of version q) (lines_of version qs) y))
lines_once version (p ∷ ps) [] x y hp hq nx ny e =
    absurd (ny p (lines_of version ps ++ x) hp.0 (sym e ∙ append_assoc (line_of version p) (lines_of version ps) x))
lines_once version (p ∷ ps) (q ∷ qs) x y hp hq nx ny e =
    let one = line_once version p q (lines_of version ps ++ x) (lines_of version qs ++ y) hp.0 hq.0
    (sym (append_assoc (line_of version p) (lines_of version ps) x) ∙ e ∙ append_assoc (line_of version q) (lines_of version qs) y) in
    let more = lines_once version ps qs x y hp.1 hq.1 nx ny one.1 in
    (ap₂ (λ r rs. r ∷ rs) one.0 more.0, more.1)

-- no line begins at the end
pub nothing_begins : (version : TableVersion) → BeginsWithNoLine version []
nothing_begins version row after h e =
    let word = length-append (verdict_word version row.verdict) (signature_line row.signature ++ after) in
    let long = length-append (name_of row.signature.alg) (space ∷ after_name row.signature after) in
    let parts = ap length (signature_parts row.signature after) in
    let none = ap length (e ∙ append_assoc (verdict_word version row.verdict) (signature_line row.signature) after) in
    absurd (omega (arith, word, long, parts, none))

-- a row of any version is one of version 2
pub rows_of_two : (version : TableVersion) (rows : List VerdictRow) → AllByRecursion (IsRow version) rows → AllByRecursion (IsRow Two) rows
rows_of_two version [] h = tt
rows_of_two version (row ∷ rows) h = ((tt, h.0.1), rows_of_two version rows h.1)
