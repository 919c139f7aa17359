-- What holds of a federation that a run left: an event can be done, it is reached after each event too, and its messages name its coordinators.
use Rattle.std.proofs.Common.{◌≡◌, ℕ, Bool, true, false, ◌&&◌, ◌≤◌, nat_le, List, [], ◌∷◌, ◌++◌, length, Some, refl, sym, ap, ◌∙◌, subst, arith}
use Rattle.std.proofs.lemmas.Bool.Decides.{nat_tests}
use Rattle.std.proofs.lemmas.Bool.{and_parts}
use Rattle.co_message.specs.declared.event.Event.{Event}
use Rattle.co_message.specs.declared.message.Message.{Message}
use Rattle.co_message.specs.declared.message.Message.TheVariants as message
use Rattle.co_plain.specs.Decisions.{BegunThere, VotedBefore}
use Rattle.co_plain.specs.Federation.{Federation}
use Rattle.co_plain.specs.Opening.{opened}
use Rattle.co_plain.specs.Quiet.{Exchange, IsNode, IsEnabled}
use Rattle.co_plain.specs.Runs.{run}
use Rattle.co_plain.specs.Settling.{timer_ends, SettlesBy, ByRestart, ByExchange, ByTimer}
use Rattle.co_base.specs.declared.node.Node.{Node}
use Rattle.co_law_settle.proofs.First.{settles_by}
use Rattle.co_law_settle.specs.SettlingTurns.{SomethingOpen}
use Rattle.co_cluster.specs.Readings.{AllUp}
use Rattle.co_plain.specs.SoundLogs.{unended_in}
use Rattle.co_plain.specs.Step.{step, step_line, disarmed}
use Rattle.co_plain.specs.Wire.{was_sent}
use Rattle.co_plain.specs.declared.happening.Happening.{Happening}
use Rattle.co_plain.specs.declared.happening.Happening.TheVariants as happening
use Rattle.co_law.proofs.EveryHome.{every_home}
use Rattle.co_law.proofs.LeftLogs.{allowed_own}
use Rattle.co_law.proofs.WholeRuns.{are_whole}
use Rattle.co_law.proofs.WritableRuns.{are_writable}
use Rattle.co_law.specs.MessageHomes.{IsHome, Belongs, CommittedBefore, MessagesNameHomes}
use Rattle.co_law_base.proofs.Lookups.{is_nothing, look_none}
use Rattle.co_law_moves.proofs.Growing.{run_grows}
use Rattle.co_plain.specs.Premises.{AreTrueVerdicts, IsTrueVerdict, AreOwn, AreOwnLogs, IsOwn, NamesOwnNode, IsOwnNode}
use Rattle.co_plain.specs.Numbers.{IsAmong}
use Rattle.co_law_node.specs.WholeNodes.{AreWhole, AreWritable}
use Rattle.co_law_runs.proofs.Fitting.{Fit, run_fits}
use Rattle.co_law_runs.proofs.Reached.{Reached, reached}
use Rattle.co_cluster.specs.Conditions.{IsReady}
use Rattle.co_settle.specs.Reached.{IsReached}

-- ---- one happening more

run_one : (hs : List Happening) (h : Happening) (s : Federation) → run (hs ++ h ∷ []) s ≡ (step (run hs s) h).state
run_one [] h s = refl
run_one (x ∷ xs) h s = run_one xs h (step s x).state

true_one : (hs : List Happening) (h : Happening) (s : Federation) → AreTrueVerdicts hs s → IsTrueVerdict (run hs s) h → AreTrueVerdicts (hs ++ h ∷ []) s
true_one [] h s v t = (t, tt)
true_one (x ∷ xs) h s v t = (v.0, true_one xs h (step s x).state v.1 t)

own_one : (n k : ℕ) (hs : List Happening) (h : Happening) → AreOwn n k hs → IsOwn n k h → AreOwn n k (hs ++ h ∷ [])
own_one n k [] h o t = (t, tt)
own_one n k (x ∷ xs) h o t = (o.0, own_one n k xs h o.1 t)

reached_with : (s : Federation) (h : Happening) (r : IsReached s) → ((z : Federation) → IsTrueVerdict z h) → IsOwn (length r.kinds) r.coords h → IsReached (step s h).state
reached_with s h r v o =
    record {
      kinds = r.kinds;
      coords = r.coords;
      found_member = r.found_member;
      found_coord = r.found_coord;
      happened = r.happened ++ h ∷ [];
      few_members = r.few_members;
      some_coord = r.some_coord;
      few_coords = r.few_coords;
      openable = r.openable;
      may = r.may;
      true_verdicts = true_one r.happened h (opened r.kinds r.coords r.found_member r.found_coord) r.true_verdicts (v (run r.happened (opened r.kinds r.coords r.found_member r.found_coord)));
      own = own_one (length r.kinds) r.coords r.happened h r.own o;
      is = run_one r.happened h (opened r.kinds r.coords r.found_member r.found_coord) ∙ ap (λ z. (step z h).state) r.is;
    }

pub reached_disarmed : (s : Federation) → IsReached s → IsReached (disarmed s)
reached_disarmed s r = reached_with s happening.Disarm r (λ z. tt) tt

-- an event that names no new node
abbrev pub NamesNoNode : Event → Type 0
NamesNoNode e = (n k : ℕ) → NamesOwnNode n k e

pub reached_next : (s : Federation) (e : Event) → IsReached s → NamesNoNode e → IsReached (step_line s e).state
reached_next s e r none = reached_with s (happening.Line e) r (λ z. tt) (none (length r.kinds) r.coords)

-- ---- what holds of it

module _ (s : Federation) (r : IsReached s) where
  abbrev s0 : Federation
  s0 = opened r.kinds r.coords r.found_member r.found_coord

  pub own_logs : AreOwnLogs r.kinds r.coords r.found_member r.found_coord
  own_logs = allowed_own r.kinds r.coords r.found_member r.found_coord r.may.own r.may.members_allowed

  fit : Fit (length r.kinds) r.coords s0 (run r.happened s0)
  fit = run_fits (length r.kinds) r.coords r.happened s0 (λ u other h. is_nothing (sym (look_none u) ∙ h)) r.own

  pub kinds_are : s.kinds ≡ r.kinds
  kinds_are = subst (λ z. z.kinds ≡ r.kinds) r.is fit.kinds

  pub coords_are : s.coordinators ≡ r.coords
  coords_are = subst (λ z. z.coordinators ≡ r.coords) r.is fit.coordinators

  pub ready : IsReady s
  ready =
      record {
        whole = subst (λ ks. AreWhole (length ks) s.coordinators s) (sym kinds_are) (subst (λ c. AreWhole (length r.kinds) c s) (sym coords_are)
            (subst (AreWhole (length r.kinds) r.coords) r.is (are_whole r.kinds r.coords r.found_member r.found_coord r.happened r.some_coord r.may.own r.may.members_allowed r.may.coords_allowed r.own)));
        writable = subst (λ ks. AreWritable (length ks) s.coordinators s) (sym kinds_are) (subst (λ c. AreWritable (length r.kinds) c s) (sym coords_are)
            (subst (AreWritable (length r.kinds) r.coords) r.is
            (are_writable r.kinds r.coords r.found_member r.found_coord r.happened r.some_coord r.few_coords r.few_members r.may.own r.may.members_allowed r.may.coords_allowed r.may.members_within r.may.coords_within r.own)));
      }

  pub all_reached : Reached s
  all_reached = subst Reached r.is (reached r.kinds r.coords r.found_member r.found_coord r.happened r.openable own_logs r.true_verdicts r.own)

  -- an event changes no node
  stays : (e : Event) → NamesNoNode e → Fit (length s.kinds) s.coordinators s (step_line s e).state
  stays e none = run_fits (length s.kinds) s.coordinators (happening.Line e ∷ []) s all_reached.sessions (none (length s.kinds) s.coordinators, tt)

  pub kinds_stay : (e : Event) → NamesNoNode e → (step_line s e).state.kinds ≡ s.kinds
  kinds_stay e none = (stays e none).kinds

  pub coords_stay : (e : Event) → NamesNoNode e → (step_line s e).state.coordinators ≡ s.coordinators
  coords_stay e none = (stays e none).coordinators

  homes : MessagesNameHomes s
  homes = subst MessagesNameHomes r.is (every_home r.kinds r.coords r.found_member r.found_coord r.happened r.openable r.true_verdicts)

  opened_are : s.opened_coord ≡ λ c. (r.found_coord c).records
  opened_are = subst (λ z. z.opened_coord ≡ λ c. (r.found_coord c).records) r.is (run_grows r.happened s0).coords

  -- whose opened log has a commit is a coordinator of the federation
  unended_own : (t c : ℕ) (members : List ℕ) → unended_in (s.opened_coord c) t ≡ Some members → IsAmong c s.coordinators
  unended_own t c members e = by (nat_le 1 c && nat_le c r.coords) refl
    where
      by : (b : Bool) → (nat_le 1 c && nat_le c r.coords) ≡ b → IsAmong c s.coordinators
      by true q = let p = and_parts (nat_le 1 c) (nat_le c r.coords) q in let low = p.0 in let high = p.1 in let k = coords_are in (grind (arith, nat_tests, low), let l : c ≤ r.coords = grind (arith, nat_tests, high) in omega (arith, l, k))
      by false q = is_nothing (sym (look_none t) ∙ ap (λ rs. unended_in rs t) (sym (ap (λ logs. logs c) opened_are ∙ r.may.own.coordinators c q)) ∙ e)

  at_home : (t c : ℕ) → IsHome s t c → IsAmong c s.coordinators
  at_home t c (CommittedBefore members e) = unended_own t c members e
  at_home t c (Belongs (VotedBefore m h)) = all_reached.opened.votes m t c h
  at_home t c (Belongs (BegunThere session e by)) = subst (IsOwnNode (length s.kinds) s.coordinators) by (all_reached.sessions t session e).home

  -- each message but an acknowledgement names a coordinator of the federation
  abbrev pub NamesCoord : Message → Type 0
  NamesCoord (message.Prepare t c m n) = IsAmong c s.coordinators
  NamesCoord (message.Vote t m c granted) = IsAmong c s.coordinators
  NamesCoord (message.Decide t c m commit) = IsAmong c s.coordinators
  NamesCoord (message.Ask t m c) = IsAmong c s.coordinators
  NamesCoord (message.Ack t m c) = Unit {0}

  pub sent_names : (note : Message) → was_sent s.sent note ≡ true → NamesCoord note
  sent_names (message.Prepare t c m n) h = at_home t c (homes (message.Prepare t c m n) h)
  sent_names (message.Vote t m c granted) h = at_home t c (homes (message.Vote t m c granted) h)
  sent_names (message.Decide t c m commit) h = at_home t c (homes (message.Decide t c m commit) h)
  sent_names (message.Ask t m c) h = at_home t c (homes (message.Ask t m c) h)
  sent_names (message.Ack t m c) h = tt

-- ---- something is left to do where something is open

pub is_stuck : (s : Federation) (r : IsReached s) → SomethingOpen s → AllUp s → ((e : Exchange) → IsEnabled s e → ⊥) → ((t : ℕ) (at : Node) → IsNode s at → timer_ends s t at ≡ false) → ⊥
is_stuck s r some up none no_timer = by (settles_by s (all_reached s r).facts (all_reached s r).sessions (all_reached s r).opened some.0 some.1)
  where
    by : SettlesBy s → ⊥
    by (ByRestart at first) = let z : true ≡ false = sym (up at first.is_node) ∙ first.down in cc
    by (ByExchange e all first) = none e first.enabled
    by (ByTimer t at quiet first) = let z : true ≡ false = sym first.ends ∙ no_timer t at first.is_node in cc
