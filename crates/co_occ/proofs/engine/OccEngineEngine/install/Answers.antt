use Rattle.std.proofs.Common.{◌≡◌, sym, ◌∙◌, ap, subst}
use Rattle.co_serial.specs.Records.{with_changes}
use Rattle.co_state.specs.Effects.{after_install}
use Rattle.co_occ.specs.declared.engine.OccEngine.{OccEngine}
use Rattle.co_occ.specs.Last.{AreLast, noted}
use Rattle.co_occ.specs.Stands.{StandsFor, recent_needed, with_needed}
use Rattle.co_occ.proofs.Lasting.{are_noted}
use Rattle.co_occ.proofs.Standing.{installed_with, stands_install, install_absent}
use Rattle.co_occ.proofs.engine.OccEngineEngine.install.Goals as goal

pub returns-clause-state : goal.returns-clause-state
returns-clause-state c = λ b s h.
    let o = c.args.self.now in
    let ws = c.in-Some.sets.writes in
    let made : OccEngine = record {
      records = c.lay.new.records;
      installs = c.in_ok-self.field-0;
      recent = c.push.new.self;
      lasts = c.note.new.lasts;
      reads = o.reads;
      undecided = c.remove.new.self;
      nothing = o.nothing;
    } in
    let is : made ≡ installed_with o c.remove.new.self ws = (λ i. record o {
      records = (c.in_ok-lay.ensures ∙ ap (with_changes o.records) c.as_slice.ensures) i;
      installs = c.in_ok-self.ensures i;
      recent = c.in_ok-push.ensures i;
      lasts = (c.in_ok-note.ensures ∙ (λ j. noted o.lasts (c.as_slice-2.ensures j) (c.in_ok-self.ensures j))) i;
      undecided = c.remove.new.self;
    }) in
    let lasts : AreLast c.forget_old.new.self.lasts (recent_needed made) made.installs =
    c.forget_old.ensures.lasts (subst (λ (e : OccEngine). AreLast e.lasts e.recent e.installs) (sym is) (are_noted o.lasts o.recent o.installs ws s.lasts_are)) in
    subst (λ (next : OccEngine). StandsFor next (after_install b c.args.t))
    (sym (c.forget_old.ensures.rest ∙ (λ i. with_needed (is i) c.forget_old.new.self.lasts)))
    (stands_install o b c.args.t c.in-Some.sets c.remove.new.self c.forget_old.new.self.lasts s h (sym c.remove.ensures.entry ∙ c.in-Some.is) c.remove.ensures.rest
    (subst (λ (e : OccEngine). AreLast c.forget_old.new.self.lasts (recent_needed e) e.installs) is lasts))

pub returns-in_default-clause-state : goal.returns-in_default-clause-state
returns-in_default-clause-state c = λ b s h. install_absent c.args.self.now b c.args.t s h (sym c.remove.ensures.entry ∙ c.in_default.is)
