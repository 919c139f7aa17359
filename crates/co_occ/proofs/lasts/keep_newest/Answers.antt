use Rattle.std.proofs.Common.{List, length, sym, ap, ◌∙◌, subst, arith}
use Rattle.co_base.specs.declared.written.Written.{Written}
use Rattle.co_occ.specs.Last.{Lasts, AreLast, forgotten}
use Rattle.co_occ.proofs.Lasting.{are_forgotten, front_left}
use Rattle.co_occ.proofs.lasts.keep_newest.Goals as goal

pub loop-recent-preserved : goal.loop-recent-preserved
loop-recent-preserved c =
    let e = c.pop-oldest.ensures in
    let t = c.loop-recent-test.true in
    let n = c.len.ensures in
    let m = c.len-in-loop-recent.ensures in
    let s = c.saturating_sub-install.ensures in
    let long = ap length e in
    record {
      left = front_left c.pop-oldest.result c.pop-oldest.new.self c.loop-recent.recent c.args.count e (omega (arith, t, n)) ∙ c.loop-recent.invariant.left;
      last = λ a.
          subst (λ (m : Lasts). AreLast m c.pop-oldest.new.self c.args.installs)
          (sym (c.forget.ensures ∙ ap (λ (ws : List Written). forgotten c.loop-recent.lasts ws c.saturating_sub-install.result) c.as_slice.ensures))
          (are_forgotten c.loop-recent.lasts c.pop-oldest.result c.pop-oldest.new.self c.args.installs c.saturating_sub-install.result
          (subst (λ (wss : List (List Written)). AreLast c.loop-recent.lasts wss c.args.installs) e (c.loop-recent.invariant.last a)) (omega (arith, s, m, long, t, n)));
    }
