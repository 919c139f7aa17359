use Rattle.std.proofs.Common.{rules, ◌≡◌, ◌≤◌, ◌∙◌, ◌++◌, ◌∷◌, [], List, ap, sym, refl, subst, length, map, take, arith, append_assoc}
use Rattle.co_disk.specs.DiskModel.{Write}
use Rattle.co_disk.specs.Kept.{write_of, entry_of}
use Rattle.co_disk.specs.Laying.{IsLaidTo}
use Rattle.co_disk.specs.declared.touched.Touched.{Touched}
use Rattle.co_disk.proofs.Lays.{covered_one, writes_take, laid_none, at_error}
use Rattle.co_disk.proofs.Rests.{rest_here, rest_then}
use Rattle.co_disk.proofs.laying.lay_parts.Goals as goal

pub loop-t-init : goal.loop-t-init
loop-t-init g c = record {
  reach = omega arith;
  rest = rest_here c.args.spot (g.H.Home.seen c.args.home.now);
  quiet = refl;
  laid = λ disk done touched short start. subst (λ (ws : List Write). IsLaidTo disk c.args.image.now ws ((g.H.Home.seen c.args.home.now).file c.args.spot) ((g.H.Home.seen c.args.home.now).reach c.args.spot)) (sym (append_none done)) start;
}
  where
    append_none : (ws : List Write) → ws ++ [] ≡ ws
    append_none [] = refl
    append_none (w ∷ ws) = ap (λ (vs : List Write). w ∷ vs) (append_none ws)

pub lay_part-requires : goal.lay_part-requires
lay_part-requires g c =
    let t = c.t-item.result in
    let at = subst (λ (u : Touched). u.at ≤ (g.H.Home.seen c.args.home.now).reach c.args.spot) (sym c.t-item.is) (c.requires.at c.loop-t.t-index t c.loop-t-test.true) in
    record { at = omega (arith, at, c.loop-t.invariant.reach) }

pub loop-t-preserved : goal.loop-t-preserved
loop-t-preserved g c =
    let t = c.t-item.result in
    let i = c.loop-t.t-index in
    let image = c.args.image.now in
    let long : length t.piece.items ≡ c.len.result = omega (arith, t.piece.ok, c.len.ensures) in
    record {
      reach = omega (arith, c.loop-t.invariant.reach, c.lay_part.ensures.reach);
      rest = rest_then c.args.spot (g.H.Home.seen c.args.home.now) (g.H.Home.seen c.loop-t.home) (g.H.Home.seen c.lay_part.new.home) c.loop-t.invariant.rest c.lay_part.ensures.rest;
      quiet = search rules;
      laid = λ disk done touched short start.
          let so_far = c.loop-t.invariant.laid disk done touched short start in
          let step = c.in_ok-lay_part.ensures.laid disk (done ++ map write_of (map entry_of (take i c.args.touched.now))) (write_of (entry_of t)) refl long (λ place covered. touched place (covered_one place c.args.touched.now i t c.loop-t-test.true c.t-item.is covered)) short so_far in
          let same = append_assoc done (map write_of (map entry_of (take i c.args.touched.now))) (write_of (entry_of t) ∷ []) ∙ ap (λ (ws : List Write). done ++ ws) (sym (writes_take c.args.touched.now i t c.loop-t-test.true c.t-item.is)) in
          subst (λ (ws : List Write). IsLaidTo disk image ws ((g.H.Home.seen c.lay_part.new.home).file c.args.spot) ((g.H.Home.seen c.lay_part.new.home).reach c.args.spot)) same step;
    }

pub returns-in_err-lay_part-clause-failed : goal.returns-in_err-lay_part-clause-failed
returns-in_err-lay_part-clause-failed g c disk touched short images =
    let t = c.t-item.result in
    let i = c.loop-t.t-index in
    let long : length t.piece.items ≡ c.len.result = omega (arith, t.piece.ok, c.len.ensures) in
    let so_far = c.loop-t.invariant.laid disk [] touched short (laid_none disk c.args.image.now _ _ images) in
    at_error c.from_residual.result _ (c.in_err-lay_part.ensures.failed disk (write_of (entry_of t)) refl long (λ place covered. touched place (covered_one place c.args.touched.now i t c.loop-t-test.true c.t-item.is covered)) short so_far.images)
