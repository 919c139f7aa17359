use Rattle.std.proofs.Common.{ℕ, ◌≤◌, ◌+◌, List}
use Rattle.co_record.specs.declared.record.Record.{Record}
use Rattle.co_record.specs.Stored.{HasLeft, unread}
use Rattle.co_plain.specs.MemberView.{first_refused_from, recovered_view}
use Rattle.co_recover.proofs.Folds.{Reached}
use Rattle.co_recover.proofs.member.past_in.Given as goal

abbrev pub invariant-records : goal.invariant-records
invariant-records l = record {
  counted : l.place + unread l.views ≤ unread l.initial.views;
  reached : (items : List (ℕ × Record)) → HasLeft l.initial.views items → Reached (first_refused_from l.coords) recovered_view items l.views l.place l.view;
}

abbrev pub decreases-records : goal.decreases-records
decreases-records l = unread l.views
