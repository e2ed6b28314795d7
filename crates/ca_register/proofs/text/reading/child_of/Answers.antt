use Rattle.std.proofs.Common.{◌≡◌, ◌≤◌, ℕ, Option, Some, sym, ◌∙◌, subst, arith}
use Rattle.std.specs.Prelude.{decimal}
use Rattle.ca_register.specs.Lines.{IsIssuer, IsLine, IsName, Line, ca_word, granted_words, key_word, keyed_words, limits_words, named_words}
use Rattle.ca_register.proofs.Spelling.{ca_is_word, decimal_is_word, key_is_word, name_is_word, none_some, same_some}
use Rattle.ca_register.proofs.text.reading.child_of.Goals as goal

within : (line : Line) (index : ℕ) → IsLine line → line.issuer ≡ Some index → index ≤ 199
within line index is issuer = subst (λ (from : Option ℕ). IsIssuer from line.ca) issuer is.issuer

pub returns-in_err-issuer-clause-only : goal.returns-in_err-issuer-clause-only
returns-in_err-issuer-clause-only c line index is issuer spelled =
    absurd (c.in_err-issuer.ensures.only (decimal index) (keyed_words (Some index) line)
    (decimal_is_word index (omega (arith, within line index is issuer))) spelled)

pub returns-in_err-issuer-2-clause-only : goal.returns-in_err-issuer-2-clause-only
returns-in_err-issuer-2-clause-only c line index is issuer spelled =
    let most = within line index is issuer in
    let first = c.in_ok-issuer.ensures.only (decimal index) (keyed_words (Some index) line) (decimal_is_word index (omega (arith, most))) spelled in
    absurd (none_some _ (c.in_err-issuer-2.ensures.only index most first.0))

pub returns-in_err-key-clause-only : goal.returns-in_err-key-clause-only
returns-in_err-key-clause-only c line index is issuer spelled =
    let most = within line index is issuer in
    let first = c.in_ok-issuer.ensures.only (decimal index) (keyed_words (Some index) line) (decimal_is_word index (omega (arith, most))) spelled in
    absurd (c.in_err-key.ensures.only (key_word line.key) (named_words (Some index) line) (key_is_word line.key is.key) first.1)

pub returns-in_err-key-2-clause-only : goal.returns-in_err-key-2-clause-only
returns-in_err-key-2-clause-only c line index is issuer spelled =
    let most = within line index is issuer in
    let first = c.in_ok-issuer.ensures.only (decimal index) (keyed_words (Some index) line) (decimal_is_word index (omega (arith, most))) spelled in
    let key = c.in_ok-key.ensures.only (key_word line.key) (named_words (Some index) line) (key_is_word line.key is.key) first.1 in
    absurd (none_some _ (c.in_err-key-2.ensures.only line.key is.key key.0))

pub returns-in_err-name-clause-only : goal.returns-in_err-name-clause-only
returns-in_err-name-clause-only c line index is issuer spelled =
    let most = within line index is issuer in
    let first = c.in_ok-issuer.ensures.only (decimal index) (keyed_words (Some index) line) (decimal_is_word index (omega (arith, most))) spelled in
    let key = c.in_ok-key.ensures.only (key_word line.key) (named_words (Some index) line) (key_is_word line.key is.key) first.1 in
    absurd (c.in_err-name.ensures.only line.name (granted_words (Some index) line) (name_is_word line.name is.name) key.1)

pub returns-then-not-is_name-clause-only : goal.returns-then-not-is_name-clause-only
returns-then-not-is_name-clause-only c line index is issuer spelled =
    let most = within line index is issuer in
    let first = c.in_ok-issuer.ensures.only (decimal index) (keyed_words (Some index) line) (decimal_is_word index (omega (arith, most))) spelled in
    let key = c.in_ok-key.ensures.only (key_word line.key) (named_words (Some index) line) (key_is_word line.key is.key) first.1 in
    let name = c.in_ok-name.ensures.only line.name (granted_words (Some index) line) (name_is_word line.name is.name) key.1 in
    let yes = c.is_name.ensures.1 (subst IsName (sym name.0) is.name) in
    absurd (cc)

pub returns-in_err-ca-clause-only : goal.returns-in_err-ca-clause-only
returns-in_err-ca-clause-only c line index is issuer spelled =
    let most = within line index is issuer in
    let first = c.in_ok-issuer.ensures.only (decimal index) (keyed_words (Some index) line) (decimal_is_word index (omega (arith, most))) spelled in
    let key = c.in_ok-key.ensures.only (key_word line.key) (named_words (Some index) line) (key_is_word line.key is.key) first.1 in
    let name = c.in_ok-name.ensures.only line.name (granted_words (Some index) line) (name_is_word line.name is.name) key.1 in
    absurd (c.in_err-ca.ensures.only (ca_word line.ca) (limits_words line.limits) (ca_is_word line.ca) name.1)

pub returns-in_err-ca-2-clause-only : goal.returns-in_err-ca-2-clause-only
returns-in_err-ca-2-clause-only c line index is issuer spelled =
    let most = within line index is issuer in
    let first = c.in_ok-issuer.ensures.only (decimal index) (keyed_words (Some index) line) (decimal_is_word index (omega (arith, most))) spelled in
    let key = c.in_ok-key.ensures.only (key_word line.key) (named_words (Some index) line) (key_is_word line.key is.key) first.1 in
    let name = c.in_ok-name.ensures.only line.name (granted_words (Some index) line) (name_is_word line.name is.name) key.1 in
    let ca = c.in_ok-ca.ensures.only (ca_word line.ca) (limits_words line.limits) (ca_is_word line.ca) name.1 in
    absurd (none_some _ (c.in_err-ca-2.ensures.only line.ca ca.0))

pub returns-in_err-limits-clause-only : goal.returns-in_err-limits-clause-only
returns-in_err-limits-clause-only c line index is issuer spelled =
    let most = within line index is issuer in
    let first = c.in_ok-issuer.ensures.only (decimal index) (keyed_words (Some index) line) (decimal_is_word index (omega (arith, most))) spelled in
    let key = c.in_ok-key.ensures.only (key_word line.key) (named_words (Some index) line) (key_is_word line.key is.key) first.1 in
    let name = c.in_ok-name.ensures.only line.name (granted_words (Some index) line) (name_is_word line.name is.name) key.1 in
    let ca = c.in_ok-ca.ensures.only (ca_word line.ca) (limits_words line.limits) (ca_is_word line.ca) name.1 in
    absurd (none_some _ (c.in_err-limits.ensures.only line.limits is.limits ca.1))

pub returns-clause-only : goal.returns-clause-only
returns-clause-only c line index is issuer spelled =
    let most = within line index is issuer in
    let first = c.in_ok-issuer.ensures.only (decimal index) (keyed_words (Some index) line) (decimal_is_word index (omega (arith, most))) spelled in
    let key = c.in_ok-key.ensures.only (key_word line.key) (named_words (Some index) line) (key_is_word line.key is.key) first.1 in
    let name = c.in_ok-name.ensures.only line.name (granted_words (Some index) line) (name_is_word line.name is.name) key.1 in
    let ca = c.in_ok-ca.ensures.only (ca_word line.ca) (limits_words line.limits) (ca_is_word line.ca) name.1 in
    let issuers = c.in_ok-issuer-2.ensures.only index most first.0 ∙ sym issuer in
    let keys = same_some _ _ (c.in_ok-key-2.ensures.only line.key is.key key.0) in
    let flags = same_some _ _ (c.in_ok-ca-2.ensures.only line.ca ca.0) in
    let limits = same_some _ _ (c.in_ok-limits.ensures.only line.limits is.limits ca.1) in
    λ i. Some (record { issuer = issuers i; key = keys i; name = name.0 i; ca = flags i; limits = limits i })
