use Rattle.std.proofs.Common.{◌≡◌, ◌∙◌, [], ◌∷◌, List, refl, ap, sym, subst, map}
use Rattle.std.specs.Prelude.{Option, OnOk, ◌||◌}
use Rattle.co_disk.specs.DiskModel.{Write, any_covers}
use Rattle.co_disk.specs.Kept.{entries, first_entry, write_of}
use Rattle.co_disk.specs.Laying.{IsLaidTo}
use Rattle.co_disk.specs.declared.touched.FirstByte.{FirstByte}
use Rattle.co_disk.proofs.laying.lay_first.Goals as goal

pub returns-in-Some-clause-laid : goal.returns-in-Some-clause-laid
returns-in-Some-clause-laid g c disk touched short laid =
    let w = write_of (first_entry c.in-Some.f) in
    let same : map write_of (entries c.args.first.now []) ≡ w ∷ [] = ap (λ (o : Option FirstByte). map write_of (entries o [])) c.in-Some.is in
    let step = c.lay_part.ensures.laid disk [] w refl refl (λ place covered. touched place (ap (λ (ws : List Write). any_covers place ws) same ∙ ap (λ b. b || any_covers place []) covered)) short laid in
    subst (λ (ws : List Write). OnOk c.lay_part.result (IsLaidTo disk c.args.image.now ws ((g.H.Home.seen c.lay_part.new.home).file c.args.spot) ((g.H.Home.seen c.lay_part.new.home).reach c.args.spot))) (sym same) step

pub returns-in-Some-clause-failed : goal.returns-in-Some-clause-failed
returns-in-Some-clause-failed g c disk touched short images =
    let w = write_of (first_entry c.in-Some.f) in
    let same : map write_of (entries c.args.first.now []) ≡ w ∷ [] = ap (λ (o : Option FirstByte). map write_of (entries o [])) c.in-Some.is in
    c.lay_part.ensures.failed disk w refl refl (λ place covered. touched place (ap (λ (ws : List Write). any_covers place ws) same ∙ ap (λ b. b || any_covers place []) covered)) short images
