use Rattle.std.proofs.Common.{◌≡◌, List, IfOk, sym, subst, ◌∙◌}
use Rattle.co_base.specs.declared.row.Row.{Row}
use Rattle.co_law_engine.proofs.SeenAlike.{rows_agree}
use Rattle.co_lock.proofs.Stepping.{seen_in_place}
use Rattle.co_lock.proofs.locked_store.LockedStore.range.Goals as goal

pub returns : goal.returns
returns c = λ g records s clear sees.
    subst (λ (rs : List Row). IfOk c.range.result (λ rows. rows ≡ rs))
    (rows_agree c.args.range.now s.kept.now records (λ q h. seen_in_place s.kept g c.args.t q (record { images_are = s.images_are; written_are = s.written_are; clean_are = s.clean_are; apart = s.apart }) (clear q h) ∙ sym (sees q h)))
    (c.range.ensures s.kept s.kept_shown)
