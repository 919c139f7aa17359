-- The lines of the doubts that remain behind turns.
use Rattle.std.proofs.Common.{inl, inr, ℕ, ◌+◌, List, [], ◌++◌, length, take, Option, Some, Result, Ok, Err, refl, sym, ap, ◌∙◌, append_assoc, append-nil}
use Rattle.std.proofs.Math.Seq.{take-length}
use Rattle.co_cluster.specs.Left.{AreLeftAs}
use Rattle.co_cluster.specs.declared.doubting.Doubt.{Doubt}
use Rattle.co_coop.specs.Resolution.{resolution}
use Rattle.co_outside.specs.Home.{File}
use Rattle.co_outside.specs.declared.spot.Spot.{Spot}
use Rattle.co_plain.specs.Federation.{Federation}
use Rattle.co_plain.specs.Runs.{run}
use Rattle.co_top.specs.Resolving.{AreListed, doubts_text, turns_text}
use Rattle.co_top.specs.Telling.{IsPut, IsPutInPart, IsTextPut}
use Rattle.co_top.specs.Turns.{AreResolved, InLines, IsResolvedShort}
use Rattle.co_top.specs.declared.status.Status.{Status}
use Rattle.co_top.specs.declared.status.Status.TheVariants as status
use Rattle.co_top.proofs.Lists.{take_behind}

module _ (s : Federation) (number : ℕ) (doubts : List Doubt) (are : AreListed s doubts) (held mid : Option (List ℕ)) (file : Spot → Option File) (put : IsPut (turns_text number s doubts) held mid)
    (files : AreLeftAs file (run (resolution s doubts) s)) where
  abbrev text : List ℕ
  text = turns_text number s doubts

  -- there was no memory to list them again
  pub none_listed : IsResolvedShort s number held mid file status.Memory
  none_listed =
      InLines doubts [] are (inl refl)
      (λ h e. (length text, put h e ∙ ap (λ t. Some (h ++ t)) (sym (ap (take (length text)) (append-nil text) ∙ take-length text)))) files (inr refl)

  module _ (remaining : List Doubt) (remain : AreListed (run (resolution s doubts) s) remaining) (told : Option (List ℕ)) where
    abbrev marks : List ℕ
    marks = doubts_text remaining

    in_part : IsPutInPart marks mid told → IsPutInPart (text ++ marks) held told
    in_part p h e =
        let cut = p (h ++ text) (put h e) in
        (length text + cut.0, cut.1 ∙ ap Some (append_assoc h text (take cut.0 marks) ∙ ap (λ t. h ++ t) (sym (take_behind text marks cut.0))))

    pub lines_told : (result : Result (Unit {0}) Status) → IsTextPut marks mid told result → AreResolved s number held told file result
    lines_told (Ok u) p =
        record {
          doubts = doubts;
          are = are;
          remaining = remaining;
          remain = remain;
          put = λ h e. p (h ++ text) (put h e) ∙ ap Some (append_assoc h text marks);
          left = files;
        }
    lines_told (Err status.Write) p = InLines doubts remaining are (inr remain) (in_part p) files (inl refl)
    lines_told (Err status.Memory) p = InLines doubts remaining are (inr remain) (in_part p) files (inr refl)
    lines_told (Err _) p = absurd p
