use Rattle.std.proofs.Common.{Ok, ℕ, List, [], ◌≡◌, ◌∙◌, refl, sym, ap, subst, option_map, take, drop, rules, ◌<◌, length, arith, length-append}
use Rattle.std.proofs.lemmas.Bool.Decides.{nat_tests}
use Rattle.co_schedule.specs.Lines.{unread}
use Rattle.co_outside.specs.Onward.{past}
use Rattle.co_schedule.proofs.NextLine.{next_many, ahead_held}
use Rattle.co_schedule.proofs.Heard.{many_heard, grown_ahead, none_ahead, nothing_heard, no_bytes, none_dropped}
use Rattle.co_schedule.proofs.lines.Lines.end.Goals as goal

pub returns-then-not-is_empty-clause-next : goal.returns-then-not-is_empty-clause-next
returns-then-not-is_empty-clause-next g c bytes told =
    let some : 0 < length c.args.self.now.buffer.items = grind (arith, nat_tests) in
    let held : 0 < length (unread c.args.self.now) = rw c.requires.none.0 some in
    next_many _ _ _ bytes (omega (arith, held, ahead_held _ _ bytes told)) c.requires.last

pub returns-then-not-is_empty-clause-heard : goal.returns-then-not-is_empty-clause-heard
returns-then-not-is_empty-clause-heard g c =
    let some : 0 < length c.args.self.now.buffer.items = grind (arith, nat_tests) in
    let held : 0 < length (unread c.args.self.now) = rw c.requires.none.0 some in
    many_heard c.args.self.now c.args.self.now _ _ c.requires.last (λ text more ahead. omega (arith, held, length-append (unread c.args.self.now) text))

pub returns-then-branch-clause-heard : goal.returns-then-branch-clause-heard
returns-then-branch-clause-heard g c =
    many_heard c.args.self.now c.take.new.self _ _ c.requires.last
    (λ text more ahead. omega (arith, length-append (unread c.args.self.now) text, grown_ahead _ _ text more c.args.self.now.buffer.items c.take.new.self.buffer.items c.in_ok-take.ensures.added (rw c.if-branch.true at c.in_ok-take.ensures.more) ahead))

pub returns-clause-heard : goal.returns-clause-heard
returns-clause-heard g c =
    let size : length c.args.self.now.buffer.items ≡ 0 = grind (arith, nat_tests) in
    let none : c.args.self.now.buffer.items ≡ [] = no_bytes c.args.self.now.buffer.items size in
    let kept : c.take.new.self.buffer.items ≡ c.args.self.now.buffer.items = rw c.if-branch.false at c.in_ok-take.ensures.more in
    nothing_heard c.args.self.now c.take.new.self _ _ (none_dropped c.args.self.now.used c.args.self.now.buffer.items none) (none_dropped c.take.new.self.used c.take.new.self.buffer.items (kept ∙ none))
    (ap (option_map (λ (size : ℕ). take size c.take.new.self.buffer.items)) (c.in_ok-take.ensures.used.1 ∙ c.requires.none.1))
    (λ text more ahead. none_ahead _ _ text more c.args.self.now.buffer.items c.take.new.self.buffer.items c.in_ok-take.ensures.added kept (c.in_ok-take.ensures.ended (ap Ok c.if-branch.false)) ahead)
