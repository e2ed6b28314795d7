-- How the nesting of an element follows from that of its kids.
use Rattle.std.proofs.Common.{◌≡◌, ℕ, ◌+◌, ◌<◌, ◌≤◌, max, Some, None, List, drop, length, get_or, refl, sym, ◌∙◌, ap, arith}
use Rattle.std.proofs.lemmas.List.{at_drop_more, at_drop_all}
use Rattle.der_core.specs.DerElement.{DerElement, Primitive, Constructed, row, listed, kids_of}
use Rattle.der_core.specs.Facts.Rows.{row-listed}
use Rattle.der_core.specs.Encoding.{nesting, deepest}

pub nesting_is_positive : (t : DerElement) → 0 < nesting t
nesting_is_positive (Primitive tag content) = omega arith
nesting_is_positive (Constructed tag kids) = omega arith

pub nesting-kids : (t : DerElement) (kids : List DerElement) → Some kids ≡ kids_of t → nesting t ≡ deepest (row kids) + 1
nesting-kids (Primitive tag content) kids e = absurd cc
nesting-kids (Constructed tag ks) kids e =
    let same : kids ≡ listed ks = cc in
    ap (λ k. deepest k + 1) (sym (row-listed ks)) ∙ ap (λ k. deepest (row k) + 1) (sym same)

pub deepest-drop : (kids : List DerElement) (i : ℕ) (d : DerElement) → i < length kids
    → deepest (row (drop i kids)) ≡ max (nesting (get_or kids i d)) (deepest (row (drop (i + 1) kids)))
deepest-drop kids i d h = at_drop_more (λ k. deepest (row k)) kids i d h

pub deepest-drop_all : (kids : List DerElement) (i : ℕ) → length kids ≤ i → deepest (row (drop i kids)) ≡ 0
deepest-drop_all kids i h = at_drop_all (λ k. deepest (row k)) kids i h
