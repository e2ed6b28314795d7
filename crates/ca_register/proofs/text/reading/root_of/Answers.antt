use Rattle.std.proofs.Common.{◌≡◌, true, ℕ, Option, Some, None, sym, subst}
use Rattle.ca_register.specs.Lines.{IsIssuer, IsName, granted_words, key_word, named_words}
use Rattle.ca_register.proofs.Spelling.{key_is_word, name_is_word, none_some, same_some}
use Rattle.ca_register.proofs.text.reading.root_of.Goals as goal

pub returns-in_err-key-clause-only : goal.returns-in_err-key-clause-only
returns-in_err-key-clause-only c line is root spelled =
    absurd (c.in_err-key.ensures.only (key_word line.key) (named_words None line) (key_is_word line.key is.key) spelled)

pub returns-in_err-key-2-clause-only : goal.returns-in_err-key-2-clause-only
returns-in_err-key-2-clause-only c line is root spelled =
    let cut = c.in_ok-key.ensures.only (key_word line.key) (named_words None line) (key_is_word line.key is.key) spelled in
    absurd (none_some _ (c.in_err-key-2.ensures.only line.key is.key cut.0))

pub returns-in_err-name-clause-only : goal.returns-in_err-name-clause-only
returns-in_err-name-clause-only c line is root spelled =
    let cut = c.in_ok-key.ensures.only (key_word line.key) (named_words None line) (key_is_word line.key is.key) spelled in
    absurd (c.in_err-name.ensures.only line.name (granted_words None line) (name_is_word line.name is.name) cut.1)

pub returns-then-not-is_name-clause-only : goal.returns-then-not-is_name-clause-only
returns-then-not-is_name-clause-only c line is root spelled =
    let cut = c.in_ok-key.ensures.only (key_word line.key) (named_words None line) (key_is_word line.key is.key) spelled in
    let name = c.in_ok-name.ensures.only line.name (granted_words None line) (name_is_word line.name is.name) cut.1 in
    let yes = c.is_name.ensures.1 (subst IsName (sym name.0) is.name) in
    absurd (cc)

pub returns-in_err-limits-clause-only : goal.returns-in_err-limits-clause-only
returns-in_err-limits-clause-only c line is root spelled =
    let cut = c.in_ok-key.ensures.only (key_word line.key) (named_words None line) (key_is_word line.key is.key) spelled in
    let name = c.in_ok-name.ensures.only line.name (granted_words None line) (name_is_word line.name is.name) cut.1 in
    absurd (none_some _ (c.in_err-limits.ensures.only line.limits is.limits name.1))

pub returns-clause-only : goal.returns-clause-only
returns-clause-only c line is root spelled =
    let cut = c.in_ok-key.ensures.only (key_word line.key) (named_words None line) (key_is_word line.key is.key) spelled in
    let name = c.in_ok-name.ensures.only line.name (granted_words None line) (name_is_word line.name is.name) cut.1 in
    let key = same_some _ _ (c.in_ok-key-2.ensures.only line.key is.key cut.0) in
    let limits = same_some _ _ (c.in_ok-limits.ensures.only line.limits is.limits name.1) in
    let ca : line.ca ≡ true = subst (λ (issuer : Option ℕ). IsIssuer issuer line.ca) root is.issuer in
    λ i. Some (record { issuer = sym root i; key = key i; name = name.0 i; ca = sym ca i; limits = limits i })
