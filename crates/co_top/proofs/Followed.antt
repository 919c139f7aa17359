-- A schedule that is followed over a directory in memory: what never comes, and how far it came.
use Rattle.std.proofs.Common.{◌≡◌, ℕ, ◌<◌, Bool, true, false, List, Option, None, Some, Result, Ok, Err, nat_lt, if◌then◌else◌, refl, sym, ◌∙◌, subst, arith}
use Rattle.std.specs.Prelude.{IfErr}
use Rattle.std.specs.Result.{IsErr, IsErrAnd}
use Rattle.std.proofs.lemmas.Bool.Decides.{nat_tests}
use Rattle.co_base.specs.declared.head.Head.{Head}
use Rattle.co_base.specs.declared.head.Kind.{Kind}
use Rattle.co_cluster.specs.Served.{HasEndedAs}
use Rattle.co_durable.specs.declared.fault.WorldFault.{WorldFault}
use Rattle.co_durable.specs.declared.fault.WorldFault.TheVariants as world
use Rattle.co_message.specs.declared.item.Item.{Item}
use Rattle.co_outside.specs.declared.home_memory.HomeMemory.{HomeMemory}
use Rattle.co_outside.specs.declared.spot.Spot.{Spot}
use Rattle.co_outside.specs.Faults.{HasRisen}
use Rattle.co_outside.specs.Home.{File, HomeView, empty_file}
use Rattle.co_outside.specs.HomeMemory.{memory_file}
use Rattle.co_plain.specs.Federation.{Federation}
use Rattle.co_plain.specs.Opening.{opened}
use Rattle.co_state.specs.declared.engine_state.EngineState.{EngineState}
use Rattle.co_trial.specs.Calm.{calm_seen}
use Rattle.co_trial.proofs.Starting.{opening_fault}
use Rattle.co_world.specs.Attached.{IsAttachedOver}
use Rattle.co_world.specs.declared.world.World.{World}
use Rattle.co_top.specs.Ends.{of_world}
use Rattle.co_top.specs.Following.{RanFresh, HasReached, IsFollowed, IsUnreached, NoHead, Halted, IsOfEvent, IsOfSchedule}
use Rattle.co_top.specs.Front.{IsHeaded}
use Rattle.co_top.specs.Heads.{IsReadStatus}
use Rattle.co_top.specs.Played.{IsTold, IsOver}
use Rattle.co_top.specs.Replayed.{IsUnopenedAs}
use Rattle.co_top.specs.declared.reader.Ask.{Ask}
use Rattle.co_top.specs.declared.reader.Looked.{Looked}
use Rattle.co_top.specs.declared.status.LimitKind.TheVariants as limit
use Rattle.co_top.specs.declared.status.Status.{Status}
use Rattle.co_top.specs.declared.status.Status.TheVariants as status

-- ---- what never comes

-- the directory counts no fault
pub calm_count : HasRisen 0 0 → ⊥
calm_count risen = omega (arith, risen)

-- it tells its files
told_where : (b : Bool) (f : File) → b ≡ true → (if b then Some f else None) ≡ None → ⊥
told_where true f e none = let z : Some f ≡ None = none in cc
told_where false f e none = let z : false ≡ true = e in cc

tells_all : (memory : HomeMemory) (spot : Spot) → memory_file memory spot ≡ None → spot.part < 2 → ⊥
tells_all memory spot none part = told_where (nat_lt spot.part 2) _ (is_part spot.part part) none
  where
    is_part : (n : ℕ) → n < 2 → nat_lt n 2 ≡ true
    is_part n lt = grind (arith, nat_tests, lt)

pub of_event : (fault : WorldFault) (old new : HomeMemory) → HasEndedAs fault (calm_seen old) (calm_seen new) → IsOfEvent (of_world fault)
of_event (world.Device spot) old new h = absurd (calm_count h.0)
of_event (world.Differs spot at kept read) old new h = absurd (tells_all old spot h.1 h.2)
of_event (world.InUse spot) old new h = absurd h
of_event (world.Bad spot at) old new h = absurd h
of_event (world.Full spot) old new h = tt
of_event world.Count old new h = tt
of_event (world.Old spot) old new h = absurd h
of_event world.Memory old new h = tt

pub read_in_schedule : (why : Status) → IsReadStatus why → IsOfSchedule why
read_in_schedule status.Done own = absurd own
read_in_schedule status.Usage own = absurd own
read_in_schedule (status.Schedule at what) own = tt
read_in_schedule status.Read own = tt
read_in_schedule status.Write own = absurd own
read_in_schedule (status.Device spot) own = absurd own
read_in_schedule (status.Differs spot place kept got) own = absurd own
read_in_schedule (status.InUse spot) own = absurd own
read_in_schedule (status.BadLog spot place) own = absurd own
read_in_schedule (status.Limit what) own = tt
read_in_schedule status.Memory own = tt
read_in_schedule (status.OldLog spot) own = absurd own
read_in_schedule (status.NotSerial txn at) own = absurd own
read_in_schedule (status.Transcript at) own = absurd own

pub event_in_schedule : (why : Status) → IsOfEvent why → IsOfSchedule why
event_in_schedule status.Done own = absurd own
event_in_schedule status.Usage own = absurd own
event_in_schedule (status.Schedule at what) own = absurd own
event_in_schedule status.Read own = absurd own
event_in_schedule status.Write own = absurd own
event_in_schedule (status.Device spot) own = absurd own
event_in_schedule (status.Differs spot place kept got) own = absurd own
event_in_schedule (status.InUse spot) own = absurd own
event_in_schedule (status.BadLog spot place) own = absurd own
event_in_schedule (status.Limit what) own = tt
event_in_schedule status.Memory own = tt
event_in_schedule (status.OldLog spot) own = absurd own
event_in_schedule (status.NotSerial txn at) own = absurd own
event_in_schedule (status.Transcript at) own = absurd own

-- no event ends as the source does
pub event_not_read : (why : Status) → IsOfEvent why → why ≡ status.Read → ⊥
event_not_read why own e = subst IsOfEvent e own

-- over files in which nothing is only memory is wanted
pub opening_memory : (file : Spot → Option File) (head : Head) (why : Status) → ((s : Spot) → s.part < 2 → file s ≡ Some empty_file) → IsUnopenedAs file head false why → ((spot : Spot) → why ≡ status.Device spot → ⊥) → why ≡ status.Memory
opening_memory file head status.Done none h device = absurd h
opening_memory file head status.Usage none h device = absurd h
opening_memory file head (status.Schedule at what) none h device = absurd h
opening_memory file head status.Read none h device = absurd h
opening_memory file head status.Write none h device = absurd h
opening_memory file head (status.Device spot) none h device = absurd (device spot refl)
opening_memory file head (status.Differs spot place kept got) none h device = absurd h
opening_memory file head (status.InUse spot) none h device = absurd (opening_fault file head (world.InUse spot) 0 0 none h (λ s e. absurd (let z : world.InUse spot ≡ world.Device s = e in cc)))
opening_memory file head (status.BadLog spot place) none h device = absurd (opening_fault file head (world.Bad spot place) 0 0 none h (λ s e. absurd (let z : world.Bad spot place ≡ world.Device s = e in cc)))
opening_memory file head (status.Limit (limit.Line at)) none h device = absurd h
opening_memory file head (status.Limit limit.Lines) none h device = absurd h
opening_memory file head (status.Limit limit.Transactions) none h device = absurd (opening_fault file head world.Count 0 0 none h (λ s e. absurd (let z : world.Count ≡ world.Device s = e in cc)))
opening_memory file head (status.Limit (limit.Log spot)) none h device = absurd (opening_fault file head (world.Full spot) 0 0 none h (λ s e. absurd (let z : world.Full spot ≡ world.Device s = e in cc)))
opening_memory file head status.Memory none h device = refl
opening_memory file head (status.OldLog spot) none h device = absurd (opening_fault file head (world.Old spot) 0 0 none h (λ s e. absurd (let z : world.Old spot ≡ world.Device s = e in cc)))
opening_memory file head (status.NotSerial txn at) none h device = absurd h
opening_memory file head (status.Transcript at) none h device = absurd h

-- so the head was not done
pub memory_unreached : {A : Type 0} (input : List ℕ) (o : Result A Status) (why : Status) → IsErr o × IsErrAnd o (λ e. e ≡ why) → why ≡ status.Memory → IfErr o (IsUnreached input)
memory_unreached input (Ok x) why h e = tt
memory_unreached input (Err w) why h e = subst (IsUnreached input) (sym (h.1 ∙ e)) (NoHead tt)

pub memory_own : {A : Type 0} (o : Result A Status) (why : Status) → IsErr o × IsErrAnd o (λ e. e ≡ why) → why ≡ status.Memory → IfErr o IsOfSchedule
memory_own (Ok x) why h e = tt
memory_own (Err w) why h e = subst IsOfSchedule (sym (h.1 ∙ e)) tt

-- ---- how far it came

module _ {E : Type 0} (takes : Kind → Type 0) (stands_for : E → EngineState → Type 0) (input : List ℕ) (file : Spot → Option File) (empty : (s : Spot) → s.part < 2 → file s ≡ Some empty_file) (head : Head) (text : List ℕ) (headed : IsHeaded input head text)
    (before : World E) (items : List Item) (at : IsAttachedOver takes stands_for file head false before items) where
  s0 : Federation
  s0 = opened head.kinds head.coords at.found_member at.found_coord

  fresh : (p : IsTold head (opened head.kinds head.coords at.found_member at.found_coord) (Some text) None None) → RanFresh input
  fresh p = record {
    file = file;
    empty = empty;
    ran = record {
      head = head;
      text = text;
      headed = headed;
      events = p.events;
      valid = p.valid;
      rest = (p.left text refl).0;
      front = (p.left text refl).1;
      found_member = at.found_member;
      found_coord = at.found_coord;
      found = at.found;
      may = at.may;
      unused = at.unused;
      fit = at.fit;
      few = at.few;
    };
  }

  module _ (now : Option (List ℕ)) (home : HomeView) (w : World E) where
    pub reached_by : (ask : Option Ask) (seen : Looked) (number : ℕ) → IsFollowed takes stands_for head (opened head.kinds head.coords at.found_member at.found_coord) (Some text) now home w ask seen (Ok number) → HasReached takes stands_for input ask w seen
    unfolding fresh
    reached_by ask seen number p = record { fresh = fresh p.0.0; whole = p.0.3 text refl; stands = p.0.2.stands; sees = p.1 }

    pub unreached_by : (why : Status) → IsOfSchedule why → IsOver takes stands_for head (opened head.kinds head.coords at.found_member at.found_coord) (Some text) now None None home w (Err why) → IsUnreached input why
    unfolding fresh
    unreached_by status.Done own p = absurd own
    unreached_by status.Usage own p = absurd own
    unreached_by (status.Schedule line what) own p = Halted (fresh p.done) (p.cause text refl)
    unreached_by status.Read own p = Halted (fresh p.done) (p.cause text refl)
    unreached_by status.Write own p = absurd own
    unreached_by (status.Device spot) own p = absurd own
    unreached_by (status.Differs spot place kept got) own p = absurd own
    unreached_by (status.InUse spot) own p = absurd own
    unreached_by (status.BadLog spot place) own p = absurd own
    unreached_by (status.Limit (limit.Line line)) own p = Halted (fresh p.done) (p.cause text refl)
    unreached_by (status.Limit limit.Lines) own p = Halted (fresh p.done) (p.cause text refl)
    unreached_by (status.Limit limit.Transactions) own p = let next = p.next text refl in Halted (fresh p.done) (p.event, next.0, next.1, p.limit)
    unreached_by (status.Limit (limit.Log spot)) own p = let next = p.next text refl in Halted (fresh p.done) (p.event, next.0, next.1, p.outgrows)
    unreached_by status.Memory own p = NoHead tt
    unreached_by (status.OldLog spot) own p = absurd own
    unreached_by (status.NotSerial txn line) own p = absurd own
    unreached_by (status.Transcript line) own p = absurd own
