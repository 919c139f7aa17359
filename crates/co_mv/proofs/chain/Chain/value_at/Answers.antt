use Rattle.std.proofs.Common.{ap, ◌∙◌, None, if◌then◌else◌}
use Rattle.co_mv.proofs.Seeing.{seen_before, seen_none, seen_found}
use Rattle.co_mv.proofs.chain.Chain.value_at.Goals as goal

pub returns-then-later-eq0 : goal.returns-then-later-eq0
returns-then-later-eq0 c = λ ordered.
    let items = c.self.inside.oldest_first.items in
    let count = c.count_until-later in
    seen_none c.args.installs items count.result c.if-later-eq0.true
    ∙ seen_before c.args.installs _ items c.args.self.now count.result c.as_slice.ensures.value c.self.view_is count.ensures.bound count.ensures.count ordered

pub returns-then-is_seen_at : goal.returns-then-is_seen_at
returns-then-is_seen_at c = λ ordered.
    let items = c.self.inside.oldest_first.items in
    let count = c.count_until-later in
    let v = c.index-version.result.now in
    c.as_ref.ensures.value ∙ ap (λ b. if b then v.value else None) c.if-is_seen_at.ensures
    ∙ seen_found c.args.installs _ items c.args.self.now count.result v c.as_slice.ensures.value c.self.view_is count.ensures.bound count.ensures.count c.if-later-eq0.false c.index-version.ensures ordered

pub returns-else-is_seen_at : goal.returns-else-is_seen_at
returns-else-is_seen_at c = λ ordered.
    let items = c.self.inside.oldest_first.items in
    let count = c.count_until-later in
    let v = c.index-version.result.now in
    ap (λ b. if b then v.value else None) c.if-is_seen_at.ensures
    ∙ seen_found c.args.installs _ items c.args.self.now count.result v c.as_slice.ensures.value c.self.view_is count.ensures.bound count.ensures.count c.if-later-eq0.false c.index-version.ensures ordered
