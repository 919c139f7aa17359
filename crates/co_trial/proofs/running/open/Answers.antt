use Rattle.std.proofs.Common.{◌++◌, ◌∷◌, [], List, Err, refl, sym, ap, ◌∙◌, subst}
use Rattle.sha2.specs.Hashers.{Holds256}
use Rattle.co_message.specs.declared.item.Item.{Item}
use Rattle.co_message.specs.declared.item.ItemKind.TheVariants as item
use Rattle.co_plain.specs.Opening.{opening_items}
use Rattle.co_plain.specs.Runs.{numbered}
use Rattle.co_replay.specs.Transcript.{items_text}
use Rattle.co_replay.proofs.Appended.{items_text-append}
use Rattle.co_trial.proofs.Ending.{unopened_untold}
use Rattle.co_trial.proofs.Starting.{opening_fault}
use Rattle.co_trial.proofs.running.open.Goals as goal

pub returns-in-Ok-put-clause-opened : goal.returns-in-Ok-put-clause-opened
returns-in-Ok-put-clause-opened g c =
    let p = c.in-Ok.ensures.opened in
    let head = c.in_ok-head.head in (
      record {
        head = head;
        kinds = c.in_ok-head.ensures.kinds;
        coords = c.in_ok-head.ensures.coords;
        file = (g.H.Home.seen c.args.home.now).file;
        empty = c.requires.empty;
        found_member = p.found_member;
        found_coord = p.found_coord;
        found = p.found;
        may = p.may;
        unused = p.unused refl;
      },
      p.stands,
      subst (Holds256 c.tell_opening-put.new.self.hasher)
          (ap (λ (is : List Item). items_text (numbered 1 (item.Head head ∷ [])) ++ items_text is) (c.as_slice.ensures ∙ p.told)
          ∙ sym (items_text-append (numbered 1 (item.Head head ∷ [])) (numbered 1 (opening_items head.kinds head.coords p.found_member p.found_coord))))
          (c.in-Ok-put.ensures [] c.requires.nothing),
    )

pub returns-in-Err-clause-ended : goal.returns-in-Err-clause-ended
returns-in-Err-clause-ended g c =
    opening_fault (g.H.Home.seen c.args.home.now).file c.in_ok-head.head c.in-Err.fault (g.H.Home.seen c.args.home.now).faults (g.H.Home.seen c.attach.new.home).faults c.requires.empty c.in-Err.ensures.refused
    (λ spot e. (c.in-Err.ensures.device spot (ap Err e)).count)

pub returns-in-Err-clause-untold : goal.returns-in-Err-clause-untold
returns-in-Err-clause-untold g c = unopened_untold g.H.Home.seen (g.H.Home.seen c.args.home.now).file c.in_ok-head.head _ c.in-Err.fault c.in-Err.ensures.refused
