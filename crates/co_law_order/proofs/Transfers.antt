-- What two traces tell alike of a member carries its precedences from the one to the other.
use Rattle.std.proofs.Common.{◌≡◌, inl, inr, ℕ, true, false, List, ◌∷◌, ◌++◌, refl, sym, ap, ◌∙◌, subst}
use Rattle.std.proofs.lemmas.Bool.{eq-eqb}
use Rattle.co_base.specs.declared.head.Kind.{Kind}
use Rattle.co_base.specs.declared.op.Op.{Op}
use Rattle.co_base.specs.declared.reply.Reply.{Reply}
use Rattle.co_state.specs.Table.{no_entries}
use Rattle.co_plain.specs.Numbers.{has_number}
use Rattle.co_plain.specs.Opening.{kind_of}
use Rattle.co_plain.specs.CommitmentOrder.{Trace, Operated, decisions_in, installs, part_seen, OperatedIn, ReadsKey, WritesKey, InstalledFirst, Before, Precedes, ReadAfter, ReadBefore, WroteBefore}
use Rattle.co_law_order.proofs.Thinning.{Thins, homes_after, thins_decisions, thins_installs, thins_seen, fronts, sources, source_of}

module _ (m : ℕ) where
  -- two fronts that tell alike
  pub record Alike (before front : List Trace) : Type 0 where
    pub decisions : decisions_in before ≡ decisions_in front
    pub installed : (u : ℕ) → installs before m u ≡ installs front m u
    pub seen : (kind : Kind) (t u : ℕ) → installs (part_seen kind before m t) m u ≡ installs (part_seen kind front m t) m u

  pub thins_alike : (before front : List Trace) → Thins m no_entries before front → Alike before front
  thins_alike before front h =
      record {
        decisions = thins_decisions m before front no_entries h;
        installed = λ u. thins_installs m before front no_entries u h;
        seen = λ kind t u. thins_seen m kind before front no_entries t u h;
      }

  pub back_alike : (before front : List Trace) → Alike before front → Alike front before
  back_alike before front a = record { decisions = sym a.decisions; installed = λ u. sym (a.installed u); seen = λ kind t u. sym (a.seen kind t u) }

  -- a place of the other trace
  pub record PlaceIn (ys before : List Trace) (x : Trace) : Type 0 where
    pub front : List Trace
    pub back : List Trace
    pub place : ys ≡ front ++ x ∷ back
    pub alike : Alike before front

  pub record FrontIn (ys before : List Trace) : Type 0 where
    pub front : List Trace
    pub back : List Trace
    pub place : ys ≡ front ++ back
    pub alike : Alike before front

  -- each front, and each operation at the member, is found in the other trace behind a front that tells alike
  pub record Carries (xs ys : List Trace) : Type 0 where
    pub front_in : (before rest : List Trace) → xs ≡ before ++ rest → FrontIn ys before
    pub place_in : (t : ℕ) (o : Op) (reply : Reply) (before rest : List Trace) → xs ≡ before ++ Operated t m o reply ∷ rest → PlaceIn ys before (Operated t m o reply)

  pub thinned_carries : (xs ys : List Trace) → Thins m no_entries xs ys → Carries xs ys
  thinned_carries xs ys h =
      record {
        front_in = λ before rest e.
            let p = fronts m before rest ys no_entries (subst (λ k. Thins m no_entries k ys) e h) in
            record { front = p.front; back = p.back; place = p.place; alike = thins_alike before p.front p.thins };
        place_in = λ t o reply before rest e.
            let p = fronts m before (Operated t m o reply ∷ rest) ys no_entries (subst (λ k. Thins m no_entries k ys) e h) in
            found t o reply before rest p.front p.back p.place p.thins p.after;
      }
    where
      found : (t : ℕ) (o : Op) (reply : Reply) (before rest front back : List Trace) → ys ≡ front ++ back → Thins m no_entries before front →
          Thins m (homes_after no_entries before) (Operated t m o reply ∷ rest) back → PlaceIn ys before (Operated t m o reply)
      found t o reply before rest front back e a (inl p) =
          record { front = front; back = p.0; place = e ∙ ap (λ k. front ++ k) p.1; alike = thins_alike before front a }
      found t o reply before rest front back e a (inr p) = absurd (let z : true ≡ false = sym (eq-eqb m m refl) ∙ p.0 in cc)

  pub thinned_back : (xs ys : List Trace) → Thins m no_entries xs ys → Carries ys xs
  thinned_back xs ys h =
      record {
        front_in = λ front back e.
            let p = sources m xs front back ys no_entries e h in
            record { front = p.before; back = p.rest; place = p.place; alike = back_alike p.before front (thins_alike p.before front p.thins) };
        place_in = λ t o reply front back e.
            let p = source_of m xs front (Operated t m o reply) back ys no_entries e h in
            record { front = p.before; back = p.rest; place = p.place; alike = back_alike p.before front (thins_alike p.before front p.thins) };
      }

  module _ (kinds others : List Kind) (xs ys : List Trace) (same : kind_of kinds m ≡ kind_of others m) (c : Carries xs ys) where
    record OperatedAlike (t : ℕ) (o : Op) (before : List Trace) : Type 0 where
      front : List Trace
      operated : OperatedIn ys t m o front
      alike : Alike before front

    operated_on : (t : ℕ) (o : Op) (before : List Trace) → OperatedIn xs t m o before → OperatedAlike t o before
    operated_on t o before p =
        let q = c.place_in t o p.reply before p.rest p.place in
        record {
          front = q.front;
          operated = record { reply = p.reply; rest = q.back; place = q.place; undecided = sym (ap (λ k. has_number k t) q.alike.decisions) ∙ p.undecided };
          alike = q.alike;
        }

    writes_on : (t : ℕ) (key : List ℕ) → WritesKey xs t m key → WritesKey ys t m key
    writes_on t key w =
        let p = operated_on t w.o w.before w.operated in
        record { o = w.o; before = p.front; operated = p.operated; change = w.change; writes = w.writes; same = w.same }

    reads_on : (t : ℕ) (key : List ℕ) (r : ReadsKey xs t m key) → (z : ReadsKey ys t m key) × Alike r.before z.before
    reads_on t key r =
        let p = operated_on t r.o r.before r.operated in
        (record { o = r.o; before = p.front; operated = p.operated; span = r.span; reads = r.reads; has = r.has }, p.alike)

    seen_on : (before front : List Trace) (t u : ℕ) → Alike before front →
        installs (part_seen (kind_of kinds m) before m t) m u ≡ installs (part_seen (kind_of others m) front m t) m u
    seen_on before front t u a = a.seen (kind_of kinds m) t u ∙ ap (λ k. installs (part_seen k front m t) m u) same

    installed_on : (t u : ℕ) → InstalledFirst xs m t u → InstalledFirst ys m t u
    installed_on t u (Before before rest e has lacks) =
        let p = c.front_in before rest e in
        Before p.front p.back p.place (sym (p.alike.installed t) ∙ has) (sym (p.alike.installed u) ∙ lacks)

    pub precedes_on : (t u : ℕ) → Precedes kinds xs t u m → Precedes others ys t u m
    precedes_on t u (ReadAfter key w r e) =
        let z = reads_on u key r in
        ReadAfter key (writes_on t key w) z.0 (sym (seen_on r.before z.0.before u t z.1) ∙ e)
    precedes_on t u (ReadBefore key r e w) =
        let z = reads_on t key r in
        ReadBefore key z.0 (sym (seen_on r.before z.0.before t u z.1) ∙ e) (writes_on u key w)
    precedes_on t u (WroteBefore key w v i) = WroteBefore key (writes_on t key w) (writes_on u key v) (installed_on t u i)
