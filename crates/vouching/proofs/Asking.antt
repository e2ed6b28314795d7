-- A run of `picky_ask` whose status is 0 has written the lines of the questions.
use Rattle.std.proofs.Common.{◌≡◌, ℕ, List, [], ◌∷◌, Option, inl, inr, subst, arith}
use Rattle.program_frame.specs.Commands.{Line}
use Rattle.program_frame.specs.Limits.{AreWholeFiles}
use Rattle.program_frame.specs.ReadFiles.{HandsOut, total_length}
use Rattle.program_frame.specs.Run.{IsRunAnswer}
use Rattle.program_frame.specs.Shelf.{ShelfState}
use Rattle.program_frame.specs.Sink.{Appends}
use Rattle.signature_questions.specs.Commands.{IsAnswerLine, program}
use Rattle.signature_questions.specs.Words.{AsksFor, Command, OfChain, OfSignature, files_of}
use Rattle.vouching.specs.Listing.{IsListed}

module _ (words : List (List ℕ)) (shelf shelf_now : ShelfState) (held held_now : Option (List ℕ)) (line : Line) (zero : line.status ≡ 0)
    (written : Appends held line.text held_now) where
  of_command : (command : Command) (contents : List (List ℕ)) → AsksFor words command → AreWholeFiles shelf.files (files_of command) contents
      → HandsOut (total_length contents) shelf shelf_now → IsAnswerLine command contents line
      → IsListed words shelf shelf_now held held_now
  of_command (OfSignature file) [] asked are given answer = absurd answer
  of_command (OfSignature file) (octets ∷ more ∷ others) asked are given answer = absurd answer
  of_command (OfSignature file) (octets ∷ []) asked are given (inr refused) = absurd (omega (arith, zero, refused.status))
  of_command (OfSignature file) (octets ∷ []) asked are given (inl (f, has, listed)) =
      inl (record {
        file = file;
        asked = asked;
        octets = octets;
        is_file = are.0;
        given = given;
        signed_data = f;
        holds = has;
        questions = listed.questions;
        are = listed.are;
        written = subst (λ (text : List ℕ). Appends held text held_now) listed.text written;
      })
  of_command (OfChain names) contents asked are given (inr refused) = absurd (omega (arith, zero, refused.status))
  of_command (OfChain names) contents asked are given (inl (checked, parents, certificates, listed)) =
      inr (record {
        names = names;
        asked = asked;
        octets = contents;
        are_files = are;
        given = given;
        checked = checked;
        parents = parents;
        are_certificates = certificates;
        questions = listed.questions;
        are = listed.are;
        written = subst (λ (text : List ℕ). Appends held text held_now) listed.text written;
      })

  pub listed : IsRunAnswer program words shelf shelf_now line → IsListed words shelf shelf_now held held_now
  listed h =
      let read = h.2 in
      of_command h.0 read.is_answered.contents h.1 read.is_answered.are_files read.given read.is_answered.is_answer
