-- What a member's changes keep of a whole one.
use Rattle.std.proofs.Common.{◌≡◌, ◌≢◌, ◌⊎◌, inl, inr, ℕ, Bool, true, false, ◌≤◌, List, ◌++◌, length, Option, Some, refl, sym, ap, ◌∙◌, subst, arith}
use Rattle.std.proofs.lemmas.List.{length-append}
use Rattle.co_base.specs.declared.head.Kind.{Kind}
use Rattle.co_message.specs.declared.answer.Answer.{Answer}
use Rattle.co_message.specs.declared.message.Message.{Message}
use Rattle.co_record.specs.declared.record.Record.{Record}
use Rattle.co_record.specs.declared.record.Record.TheVariants as log
use Rattle.co_frame.specs.Gate.{batch_is_stable}
use Rattle.co_state.specs.declared.engine_state.Operation.{Operation}
use Rattle.co_state.specs.Table.{look, holds, without}
use Rattle.co_plain.specs.declared.log_state.LogState.{LogState}
use Rattle.co_base.specs.declared.leaves.Stop.{Stop}
use Rattle.co_base.specs.Limits.{most_operations}
use Rattle.co_plain.specs.declared.member_state.AskedMark.{AskedMark}
use Rattle.co_plain.specs.declared.member_state.MemberState.{MemberState}
use Rattle.co_plain.specs.declared.outcome.Outcome.{Outcome}
use Rattle.co_plain.specs.declared.outcome.Outcome.TheVariants.{Completes, StopsAt}
use Rattle.co_plain.specs.LogWrite.{outcome_of, with_batch, with_waiting}
use Rattle.co_plain.specs.MemberView.{recovered_view, forget_in}
use Rattle.co_plain.specs.MemberStep.{with_log, dropped, member_down, member_down_with, stopped_member, forced_by, force_member}
use Rattle.co_plain.specs.Member.{with_mark}
use Rattle.co_plain.specs.Invariants.{Memory, view, stands}
use Rattle.co_law_base.proofs.Lookups.{is_nothing, look_none, put_cases, without_cases}
use Rattle.co_law_base.proofs.ViewMoves.{neither_stands, still_holds, forget_leaves}
use Rattle.co_law_base.proofs.LogMoves.{without_absent, not_held}
use Rattle.co_law_node.specs.WholeMembers.{AbortsAlone, was_installed}
use Rattle.co_plain.specs.Numbers.{IsAmong}
use Rattle.co_law_node.proofs.Allowed.{Allowed, Tells, tells, older}

-- of an active transaction with these operations
abbrev pub IsActiveHere : MemberState → ℕ → List Operation → Type 0
IsActiveHere x t os = (stands (view Memory x) t ≡ false) × (1 ≤ length os) × (length os ≤ most_operations)

abbrev pub IsMarkedHere : ℕ → MemberState → ℕ → AskedMark → Type 0
IsMarkedHere coords x t mark = (holds x.engine.active t ≡ true) × IsAmong mark.coord coords × (1 ≤ mark.count)

-- what memory has beside its views
pub record Keeps (coords : ℕ) (x : MemberState) : Type 0 where
  pub active : (t : ℕ) (os : List Operation) → look x.engine.active t ≡ Some os → IsActiveHere x t os
  pub installed : (t : ℕ) → was_installed x.engine.installed t ≡ true → holds x.committed t ≡ true
  pub marked : (t : ℕ) (mark : AskedMark) → look x.asked t ≡ Some mark → IsMarkedHere coords x t mark

pub record Whole (coords : ℕ) (x : MemberState) : Type 0 where
  pub allowed : Allowed coords (x.log.waiting ++ x.log.stable)
  pub headed : 1 ≤ length x.log.stable
  pub aborts : AbortsAlone x.log.waiting
  pub logged : recovered_view (x.log.waiting ++ x.log.stable) ≡ view Memory x
  pub keeps : Keeps coords x
  pub down : x.up ≡ false → x ≡ member_down x x.log

-- what runs is not down
pub runs : {A : Type 0} (x : MemberState) → x.up ≡ true → x.up ≡ false → A
runs x u d = absurd (let z : true ≡ false = sym u ∙ d in cc)

-- a member that is down rests on its stable records
pub whole_down : (coords : ℕ) (kind : Kind) (l : LogState) → Allowed coords l.stable → 1 ≤ length l.stable → Whole coords (member_down_with kind l)
whole_down coords kind l a h =
    record {
      allowed = a;
      headed = h;
      aborts = tt;
      logged = refl;
      keeps = record {
        active = λ t os e. is_nothing (sym (look_none t) ∙ e);
        installed = λ t e. absurd (let z : false ≡ true = e in cc);
        marked = λ t mark e. is_nothing (sym (look_none t) ∙ e);
      };
      down = λ e. refl;
    }

module _ (coords : ℕ) (x : MemberState) (w : Whole coords x) where
  pub memory_tells : Tells coords (view Memory x)
  memory_tells = subst (Tells coords) w.logged (tells coords (x.log.waiting ++ x.log.stable) w.allowed)

  pub stable_allowed : Allowed coords x.log.stable
  stable_allowed = older coords x.log.waiting x.log.stable w.allowed

  -- the same engine and records
  pub alike : (up : Bool) (armed : Option Stop) (closed : Bool) →
      let y : MemberState = record {
        up = up;
        engine = x.engine;
        committed = x.committed;
        asked = x.asked;
        log = record { stable = x.log.stable; waiting = x.log.waiting; armed = armed; spare_closed = closed };
      } in
      (up ≡ false → y ≡ member_down y y.log) → Whole coords y
  alike up armed closed d =
      record {
        allowed = w.allowed;
        headed = w.headed;
        aborts = w.aborts;
        logged = w.logged;
        keeps = record { active = w.keeps.active; installed = w.keeps.installed; marked = w.keeps.marked };
        down = d;
      }

  -- who is left marked and active when one is taken out
  pub fewer_marked : (t u : ℕ) (mark : AskedMark) → look (without x.asked t) u ≡ Some mark →
      (holds (without x.engine.active t) u ≡ true) × IsAmong mark.coord coords × (1 ≤ mark.count)
  fewer_marked t u mark h =
      let p = without_cases x.asked t u mark h in
      let q = w.keeps.marked u mark p.1 in
      (still_holds x.engine.active t u p.0 q.0, q.1, q.2)

  -- an active transaction is forgotten, or one that is nowhere
  pub drops : (t : ℕ) → x.up ≡ true → stands (view Memory x) t ≡ false → Whole coords (dropped x t)
  drops t u n =
      record {
        allowed = w.allowed;
        headed = w.headed;
        aborts = w.aborts;
        logged = w.logged ∙ sym same;
        keeps = record {
          active = λ k os h. let a = w.keeps.active k os (without_cases x.engine.active t k os h).1 in (ap (λ v. stands v k) same ∙ a.0, a.1, a.2);
          installed = w.keeps.installed;
          marked = fewer_marked t;
        };
        down = runs x u;
      }
    where
      same : view Memory (dropped x t) ≡ view Memory x
      same = λ i. record {
        records = (view Memory x).records;
        voted = without_absent x.engine.voted t (not_held x.engine.voted t (neither_stands (view Memory x) t n).0) i;
        committed = x.committed;
      }

  -- a voted transaction is forgotten, and its abort waits
  pub drops_vote : (t : ℕ) → x.up ≡ true → holds x.engine.voted t ≡ true → Whole coords (with_log (dropped x t) (with_waiting x.log (log.Abort t)))
  drops_vote t u v =
      record {
        allowed = (ap (λ z. holds z.voted t) w.logged ∙ v, w.allowed);
        headed = w.headed;
        aborts = w.aborts;
        logged = ap (λ z. forget_in z t) w.logged;
        keeps = record {
          active = λ k os h. active k os (without_cases x.engine.active t k os h).1;
          installed = w.keeps.installed;
          marked = fewer_marked t;
        };
        down = runs x u;
      }
    where
      active : (k : ℕ) (os : List Operation) → look x.engine.active k ≡ Some os → IsActiveHere (with_log (dropped x t) (with_waiting x.log (log.Abort t))) k os
      active k os h = let a = w.keeps.active k os h in (forget_leaves (view Memory x) t k a.0, a.1, a.2)

  -- a prepare is marked
  pub marks : (t coord count : ℕ) → x.up ≡ true → holds x.engine.active t ≡ true → IsAmong coord coords → 1 ≤ count → Whole coords (with_mark x t coord count)
  marks t coord count u a c n =
      record {
        allowed = w.allowed;
        headed = w.headed;
        aborts = w.aborts;
        logged = w.logged;
        keeps = record {
          active = w.keeps.active;
          installed = w.keeps.installed;
          marked = λ k mark h. marked k mark (put_cases x.asked t (record { coord = coord; count = count }) k mark h);
        };
        down = runs x u;
      }
    where
      marked : (k : ℕ) (mark : AskedMark) → ((t ≡ k) × (◌≡◌ {A = AskedMark} (record { coord = coord; count = count }) mark)) ⊎ ((t ≢ k) × (look x.asked k ≡ Some mark)) →
          IsMarkedHere coords x k mark
      marked k mark (inl p) = subst (IsMarkedHere coords x k) p.1 (ap (holds x.engine.active) (sym p.0) ∙ a, c, n)
      marked k mark (inr p) = w.keeps.marked k mark p.1

-- What may be forced: the records are allowed behind those that stand and wait, and tell what the next state has.
pub record Forcible (coords : ℕ) (next : MemberState) (batch : List Record) : Type 0 where
  pub allowed : Allowed coords (batch ++ (next.log.waiting ++ next.log.stable))
  pub headed : 1 ≤ length next.log.stable
  pub up : next.up ≡ true
  pub logged : recovered_view (batch ++ (next.log.waiting ++ next.log.stable)) ≡ view Memory next
  pub keeps : Keeps coords next

pub more_headed : (batch waiting stable : List Record) → 1 ≤ length stable → 1 ≤ length (batch ++ (waiting ++ stable))
more_headed batch waiting stable h =
    let e = length-append batch (waiting ++ stable) in
    let f = length-append waiting stable in
    omega (arith, e, f)

-- however the write ends
pub forces : (coords m : ℕ) (next : MemberState) (batch : List Record) (a : Answer) (message : Option Message) → Forcible coords next batch →
    Whole coords (force_member m next batch a message).state
forces coords m next batch a message f = by (outcome_of next.log.armed 4)
  where
    stopped : (call : ℕ) (b : Bool) → Whole coords (stopped_member m next call b batch).state
    stopped call true = whole_down coords next.engine.kind (with_batch next.log batch) f.allowed (more_headed batch next.log.waiting next.log.stable f.headed)
    stopped call false =
        whole_down coords next.engine.kind next.log (older coords next.log.waiting next.log.stable (older coords batch (next.log.waiting ++ next.log.stable) f.allowed)) f.headed

    by : (o : Outcome) → Whole coords (forced_by m next batch a message o).state
    by Completes =
        record {
          allowed = f.allowed;
          headed = more_headed batch next.log.waiting next.log.stable f.headed;
          aborts = tt;
          logged = f.logged;
          keeps = record { active = f.keeps.active; installed = f.keeps.installed; marked = f.keeps.marked };
          down = runs next f.up;
        }
    by (StopsAt call leaves) = stopped call (batch_is_stable call leaves)
