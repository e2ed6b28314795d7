use Rattle.std.proofs.Common.{◌≤◌, List, length}
use Rattle.authenticode_core.specs.OthersCursor.{unread_members}
use Rattle.signature_questions.specs.Ahead.{AreLinksAhead}
use Rattle.signature_questions.specs.Question.{Question}
use Rattle.signature_questions.proofs.links.Links.next.Given as goal

-- no question is about the certificates that were skipped
abbrev pub invariant-loop-parent : goal.invariant-loop-parent
invariant-loop-parent l = record {
  ahead : (qs : List Question) → AreLinksAhead l.self qs → AreLinksAhead l.initial.self qs;
  shorter : length (unread_members l.self.parents.source) ≤ length (unread_members l.initial.self.parents.source);
}

abbrev pub decreases-loop-parent : goal.decreases-loop-parent
decreases-loop-parent l = length (unread_members l.self.parents.source)
