-- The table of OIDs: names, dotted texts and contents octets.
use Rattle.std.specs.Prelude.{◌≡◌, ◌≢◌, ℕ, Bool, List, map}
use Rattle.std.specs.List.{Any, list_any}
use Rattle.std.specs.Str.{bytes_eq}
use Rattle.asn1_types.specs.declared.oids.TheConstants.{TABLE}
use Rattle.asn1_types.specs.ObjectIdentifier.{IsArcs, contents_of, dotted}

-- A row of the table.
pub record KnownRow : Type 0 where
  pub name : List ℕ
  pub text : List ℕ
  pub contents : List ℕ

-- The row with this name, text and contents octets.
abbrev pub known_row : List ℕ → List ℕ → List ℕ → KnownRow
known_row name text contents = record { name = name; text = text; contents = contents }

-- The rows of the table.
unfoldable pub known_rows : List KnownRow
known_rows = map (λ row. known_row row.0.now row.1.now row.2.now) TABLE

-- One of the rows has this name, text and contents octets.
abbrev pub HasRow : List KnownRow → List ℕ → List ℕ → List ℕ → Type 0
HasRow rows name text contents = Any (λ row. row ≡ known_row name text contents) rows

-- Whether octets are the contents octets of a row.
abbrev pub is_known : List ℕ → Bool
is_known contents = list_any (λ row. bytes_eq row.2.now contents) TABLE

-- The text and the contents octets of a row are those of one OID.
pub record IsOfOneIdentifier (row : KnownRow) : Type 0 where
  pub arcs : List ℕ
  pub are_arcs : IsArcs arcs
  pub printed : row.text ≡ dotted arcs
  pub encoded : row.contents ≡ contents_of arcs

-- Two rows have neither name nor text nor contents octets in common.
pub record Differ (a b : KnownRow) : Type 0 where
  pub names : a.name ≢ b.name
  pub texts : a.text ≢ b.text
  pub contents : a.contents ≢ b.contents
