use Rattle.std.proofs.Common.{ℕ, List, Result, Ok, Err, MatchResult}
use Rattle.der_core.specs.Refusals.{RefusesShape}
use Rattle.der_core.specs.declared.error.DerError.{DerError}
use Rattle.x509_types.specs.ExtensionView.{IsValueOf}
use Rattle.x509_types.specs.Facts.ExtensionViews.{RefusesKind, kind_refused}
use Rattle.x509_types.specs.declared.extension.view.ExtensionKind.{ExtensionKind}
use Rattle.x509_types.specs.declared.extension.view.ExtensionView.{ExtensionView}
use Rattle.x509_types.proofs.extension.view.ExtensionView.read.Goals as goal

by_kind : (kind : ExtensionKind) (octets : List ℕ) (r : Result ExtensionView DerError) → MatchResult r (IsValueOf kind octets) (RefusesKind kind octets)
    → MatchResult r (IsValueOf kind octets) (RefusesShape (IsValueOf kind octets))
by_kind kind octets (Ok view) is = is
by_kind kind octets (Err e) refused = kind_refused kind octets e refused

pub returns : goal.returns
returns c = by_kind _ _ _ c.read_kind.ensures
