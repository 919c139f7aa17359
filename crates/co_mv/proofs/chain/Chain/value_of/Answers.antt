use Rattle.std.proofs.Common.{Some, ◌<◌, length, map, reverse, slice_get, sym, ap, ◌∙◌, refl, subst}
use Rattle.std.specs.Option.{option_map}
use Rattle.std.proofs.lemmas.List.{reverse-reverse, length-reverse}
use Rattle.std.proofs.lemmas.Option.{slice_get-map, slice_get_read}
use Rattle.co_mv.specs.declared.version.Version.{Version}
use Rattle.co_mv.proofs.chain.Chain.value_of.Goals as goal

pub returns : goal.returns
returns c =
    let items = c.self.inside.oldest_first.items in
    let within = subst (λ n. c.args.place < n) (ap length (sym c.self.view_is) ∙ length-reverse items) c.requires in
    ap (λ vs. slice_get (map (λ (v : Version). v.value) vs) c.args.place) (ap reverse (sym c.self.view_is) ∙ reverse-reverse items)
    ∙ slice_get-map (λ v. v.value) items c.args.place
    ∙ ap (option_map (λ v. v.value)) (slice_get_read items (length items) c.args.place c.index.result.now refl within c.index.ensures)
    ∙ ap Some (sym c.as_ref.ensures.value)
