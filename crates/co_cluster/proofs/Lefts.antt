-- What a fault of one node leaves in the files of all nodes.
use Rattle.std.proofs.Common.{◌≡◌, ◌≢◌, ◌⊎◌, ◌==◌, ℕ, zero, [], ◌∷◌, suc, ◌-◌, ◌<◌, ◌≤◌, Bool, true, false, List, length, slice_get, Option, None, Some, refl, sym, ap, subst, ◌∙◌, inl, inr, arith}
use Rattle.std.proofs.lemmas.Bool.{eqb-true, eqb-false}
use Rattle.co_base.specs.Nodes.{IsValidNode}
use Rattle.co_base.specs.declared.head.Kind.{Kind}
use Rattle.co_base.specs.declared.node.Node.{Node}
use Rattle.co_base.specs.declared.node.Node.TheVariants as node
use Rattle.co_log.specs.LogView.{spot_of}
use Rattle.co_log.specs.NodeFiles.{Items, newest_first, HasRecordsIn}
use Rattle.co_log.specs.Others.{OtherFilesStay}
use Rattle.co_node.proofs.Opened.{told_records}
use Rattle.co_node.specs.Answers.{AreTold, LeftAs}
use Rattle.co_node.specs.Sizes.{IsOverlong}
use Rattle.co_log.specs.declared.fault.NodeFault.{NodeFault}
use Rattle.co_log.specs.declared.fault.NodeFault.TheVariants as log
use Rattle.co_durable.specs.declared.fault.WorldFault.{WorldFault}
use Rattle.co_durable.specs.declared.fault.WorldFault.TheVariants as world
use Rattle.co_cluster.specs.Served.{of_node}
use Rattle.co_outside.specs.Home.{HomeView, File}
use Rattle.co_outside.specs.declared.spot.Spot.{Spot}
use Rattle.co_base.specs.declared.mark.Mark.{Mark}
use Rattle.co_message.specs.declared.message.Message.{Message}
use Rattle.co_plain.specs.Federation.{Federation, message_list, noted, with_member, with_coord}
use Rattle.co_plain.specs.Step.{disarmed, up_member, up_coord}
use Rattle.co_plain.specs.declared.coord_step.CoordStep.{CoordStep as PlainCoordStep}
use Rattle.co_plain.specs.declared.member_step.MemberStep.{MemberStep as PlainMemberStep}
use Rattle.co_coord.specs.Standing.{RepresentsCoord}
use Rattle.co_member.specs.Standing.{RepresentsMember}
use Rattle.co_cluster.specs.Calls.{member_does, coord_does}
use Rattle.co_cluster.specs.declared.calls.CoordCall.{CoordCall}
use Rattle.co_cluster.specs.declared.calls.MemberCall.{MemberCall}
use Rattle.co_plain.specs.declared.coord_state.CoordState.{CoordState}
use Rattle.co_plain.specs.declared.member_state.MemberState.{MemberState}
use Rattle.co_base.specs.Limits.{most_coordinators, most_log_bytes, most_members}
use Rattle.co_log.specs.Attaching.{IsWithin}
use Rattle.co_log.proofs.Spots.{stays_elsewhere}
use Rattle.co_opening.specs.Rest.{IsSpotOf}
use Rattle.co_cluster.proofs.Places.{at_other, at_same, within_list}
use Rattle.co_record.specs.declared.record.Record.{Record}
use Rattle.co_state.specs.declared.engine_state.EngineState.{EngineState}
use Rattle.co_coord.specs.declared.coord.Coord.{Coord}
use Rattle.co_member.specs.declared.member.Member.{Member}
use Rattle.co_cluster.specs.Left.{HasStable, HasOverlong, OverlongMember, OverlongCoord, IsFullWith, IsFullIn, IsLeftBy, AreLeftAs, AreLeftBy, AreLeftNear, AreLeftWith, member_disarmed, coord_disarmed}
use Rattle.co_cluster.specs.Standing.{RepresentsCluster, AreHeld}
use Rattle.co_cluster.specs.declared.cluster.Cluster.{Cluster}

-- ---- a directory that holds the logs

-- a number has a place in the list
some_at : {M : Type 0} (ms : List M) (p : ℕ) → p < length ms → (m : M) × (slice_get ms p ≡ Some m)
some_at [] p h = absurd (omega (arith, h))
some_at (x ∷ ms) zero h = (x, refl)
some_at (x ∷ ms) (suc p) h = some_at ms p (omega (arith, h))

module _ {E : Type 0} (takes : Kind → Type 0) (stands_for : E → EngineState → Type 0) where
  -- the files of its nodes have the stable records of the plain federation
  pub held_left : (w : Cluster E) (s : Federation) (home : HomeView) → RepresentsCluster takes stands_for w s → AreHeld home w → AreLeftAs home.file s
  held_left w s home r held = record {
    member = λ k from to.
        let next : suc (k - 1) ≡ k = omega arith in
        let found = some_at w.members.items (k - 1) (omega (arith, from, to, r.kinds)) in
        let here = r.member (k - 1) found.0 found.1 in
        let kept = held.member (k - 1) found.0 found.1 in
        let told : HasStable home.file (node.Member found.0.number) (s.member (suc (k - 1))).log.stable = told_records (node.Member found.0.number) home found.0.log (s.member (suc (k - 1))).log here.stands.log kept.held kept.within in
        subst (λ (j : ℕ). HasStable home.file (node.Member j) (s.member j).log.stable) next (subst (λ (j : ℕ). HasStable home.file (node.Member j) (s.member (suc (k - 1))).log.stable) here.number told);
    coord = λ k from to.
        let next : suc (k - 1) ≡ k = omega arith in
        let found = some_at w.coords.items (k - 1) (omega (arith, from, to, r.coordinators)) in
        let here = r.coord (k - 1) found.0 found.1 in
        let kept = held.coord (k - 1) found.0 found.1 in
        let told : HasStable home.file (node.Coord found.0.number) (s.coord (suc (k - 1))).log.stable = told_records (node.Coord found.0.number) home found.0.log (s.coord (suc (k - 1))).log here.stands.log kept.held kept.within in
        subst (λ (j : ℕ). HasStable home.file (node.Coord j) (s.coord j).log.stable) next (subst (λ (j : ℕ). HasStable home.file (node.Coord j) (s.coord (suc (k - 1))).log.stable) here.number told);
  }

-- ---- one node

file_is : (o : Option File) → ((f : File) × (o ≡ Some f)) ⊎ (o ≡ None)
file_is None = inr refl
file_is (Some f) = inl (f, refl)

none_some : {o : Option File} {f : File} → o ≡ None → o ≡ Some f → ⊥
none_some none is = let h : None ≡ Some _ = sym none ∙ is in absurd cc

are_told : (file : Spot → Option File) (owner : Node) → AreTold file owner ⊎ (AreTold file owner → ⊥)
are_told file owner = by (file_is (file (spot_of owner 0))) (file_is (file (spot_of owner 1)))
  where
    by : ((f : File) × (file (spot_of owner 0) ≡ Some f)) ⊎ (file (spot_of owner 0) ≡ None) → ((f : File) × (file (spot_of owner 1) ≡ Some f)) ⊎ (file (spot_of owner 1) ≡ None) → AreTold file owner ⊎ (AreTold file owner → ⊥)
    by (inl a) (inl b) = inl (record { a = a.0; b = b.0; is_a = a.1; is_b = b.1 })
    by (inl a) (inr none) = inr (λ told. none_some none told.is_b)
    by (inr none) other = inr (λ told. none_some none told.is_a)

-- the one list of records, or the other
left_split : (file : Spot → Option File) (owner : Node) (this that : List Record) → LeftAs file owner this that → HasStable file owner this ⊎ HasStable file owner that
left_split file owner this that left = by (are_told file owner)
  where
    which : (items : Items) → HasRecordsIn file owner items → (newest_first items ≡ this) ⊎ (newest_first items ≡ that) → HasStable file owner this ⊎ HasStable file owner that
    which items has (inl e) = inl (λ told. (items, has, e))
    which items has (inr e) = inr (λ told. (items, has, e))

    by : AreTold file owner ⊎ (AreTold file owner → ⊥) → HasStable file owner this ⊎ HasStable file owner that
    by (inl told) = let h = left told in which h.0 h.1 h.2
    by (inr not_told) = inl (λ told. absurd (not_told told))

-- the files of another node keep their records
other_stable : (this that : Node) (old new : HomeView) (records : List Record) → IsValidNode this → IsValidNode that → that ≢ this → OtherFilesStay this old new → HasStable old.file that records → HasStable new.file that records
other_stable this that old new records one two other stay has told =
    let still = stays_elsewhere this that old new one two other stay in
    let same_a = still.file_a in
    let same_b = still.file_b in
    let found = has (record { a = told.a; b = told.b; is_a = sym same_a ∙ told.is_a; is_b = sym same_b ∙ told.is_b }) in
    let old = found.1.1 in (
      found.0,
      (
        found.1.0,
        record {
          a = old.a;
          b = old.b;
          told_a = λ f is. old.told_a f (sym same_a ∙ is);
          told_b = λ f is. old.told_b f (sym same_b ∙ is);
          within_a = subst (λ (o : Option File). IsWithin most_log_bytes o) (sym same_a) old.within_a;
          within_b = subst (λ (o : Option File). IsWithin most_log_bytes o) (sym same_b) old.within_b;
          current = old.current;
        },
      ),
      found.2,
    )

-- ---- all nodes

number_is : (k i : ℕ) → (k ≡ i) ⊎ (k ≢ i)
number_is k i = by (k == i) refl
  where
    by : (b : Bool) → (k == i) ≡ b → (k ≡ i) ⊎ (k ≢ i)
    by true e = inl (eqb-true k i e)
    by false e = inr (eqb-false k i e)

member_number : {m n : ℕ} → node.Member m ≡ node.Member n → m ≡ n
member_number e = cc

coord_number : {m n : ℕ} → node.Coord m ≡ node.Coord n → m ≡ n
coord_number e = cc

no_member : {m n : ℕ} → node.Coord m ≡ node.Member n → ⊥
no_member e = absurd cc

-- a federation of few nodes
pub record AreFew (s : Federation) : Type 0 where
  pub members : length s.kinds ≤ most_members
  pub coords : s.coordinators ≤ most_coordinators

module _ (s : Federation) (few : AreFew s) (old new : HomeView) (before : AreLeftAs old.file s) where
  -- the member of a number has these records now, and all others what they had
  member_left_as : (k : ℕ) (next : Federation) → 1 ≤ k → k ≤ length s.kinds → OtherFilesStay (node.Member k) old new → next.kinds ≡ s.kinds → next.coordinators ≡ s.coordinators
      → ((i : ℕ) → k ≢ i → (next.member i).log.stable ≡ (s.member i).log.stable) → ((c : ℕ) → (next.coord c).log.stable ≡ (s.coord c).log.stable) → HasStable new.file (node.Member k) (next.member k).log.stable → AreLeftAs new.file next
  member_left_as k next from to stay kinds coordinators members coords now =
      let this : IsValidNode (node.Member k) = (from, omega (arith, to, few.members)) in
      record {
        member = λ i low high. by i low (subst (λ (ks : List Kind). i ≤ length ks) kinds high) (number_is k i);
        coord = λ c low high.
            let bound : c ≤ s.coordinators = subst (λ (n : ℕ). c ≤ n) coordinators high in
            let that : IsValidNode (node.Coord c) = (low, omega (arith, bound, few.coords)) in
            subst (λ (rs : List Record). HasStable new.file (node.Coord c) rs) (sym (coords c)) (other_stable (node.Member k) (node.Coord c) old new (s.coord c).log.stable this that (λ e. no_member e) stay (before.coord c low bound));
      }
    where
      by : (i : ℕ) → 1 ≤ i → i ≤ length s.kinds → (k ≡ i) ⊎ (k ≢ i) → HasStable new.file (node.Member i) (next.member i).log.stable
      by i low high (inl same) = subst (λ (j : ℕ). HasStable new.file (node.Member j) (next.member j).log.stable) same now
      by i low high (inr other) =
          subst (λ (rs : List Record). HasStable new.file (node.Member i) rs) (sym (members i other))
          (other_stable (node.Member k) (node.Member i) old new (s.member i).log.stable (from, omega (arith, to, few.members)) (low, omega (arith, high, few.members)) (λ e. other (sym (member_number e))) stay (before.member i low high))

  coord_left_as : (k : ℕ) (next : Federation) → 1 ≤ k → k ≤ s.coordinators → OtherFilesStay (node.Coord k) old new → next.kinds ≡ s.kinds → next.coordinators ≡ s.coordinators
      → ((i : ℕ) → k ≢ i → (next.coord i).log.stable ≡ (s.coord i).log.stable) → ((m : ℕ) → (next.member m).log.stable ≡ (s.member m).log.stable) → HasStable new.file (node.Coord k) (next.coord k).log.stable → AreLeftAs new.file next
  coord_left_as k next from to stay kinds coordinators coords members now =
      let this : IsValidNode (node.Coord k) = (from, omega (arith, to, few.coords)) in
      record {
        member = λ m low high.
            let bound : m ≤ length s.kinds = subst (λ (ks : List Kind). m ≤ length ks) kinds high in
            let that : IsValidNode (node.Member m) = (low, omega (arith, bound, few.members)) in
            subst (λ (rs : List Record). HasStable new.file (node.Member m) rs) (sym (members m)) (other_stable (node.Coord k) (node.Member m) old new (s.member m).log.stable this that (λ e. no_member (sym e)) stay (before.member m low bound));
        coord = λ i low high. by i low (subst (λ (n : ℕ). i ≤ n) coordinators high) (number_is k i);
      }
    where
      by : (i : ℕ) → 1 ≤ i → i ≤ s.coordinators → (k ≡ i) ⊎ (k ≢ i) → HasStable new.file (node.Coord i) (next.coord i).log.stable
      by i low high (inl same) = subst (λ (j : ℕ). HasStable new.file (node.Coord j) (next.coord j).log.stable) same now
      by i low high (inr other) =
          subst (λ (rs : List Record). HasStable new.file (node.Coord i) rs) (sym (coords i other))
          (other_stable (node.Coord k) (node.Coord i) old new (s.coord i).log.stable (from, omega (arith, to, few.coords)) (low, omega (arith, high, few.coords)) (λ e. other (sym (coord_number e))) stay (before.coord i low high))

  -- a fault of one member leaves the old records of all nodes, or those of the completed write
  pub member_fault_left : (k : ℕ) (x : MemberState) → 1 ≤ k → k ≤ length s.kinds → OtherFilesStay (node.Member k) old new → LeftAs new.file (node.Member k) (s.member k).log.stable x.log.stable
      → AreLeftAs new.file s ⊎ AreLeftAs new.file (with_member (disarmed s) k x)
  member_fault_left k x from to stay left = by (left_split new.file (node.Member k) (s.member k).log.stable x.log.stable left)
    where
      by : HasStable new.file (node.Member k) (s.member k).log.stable ⊎ HasStable new.file (node.Member k) x.log.stable → AreLeftAs new.file s ⊎ AreLeftAs new.file (with_member (disarmed s) k x)
      by (inl kept) = inl (member_left_as k s from to stay refl refl (λ i other. refl) (λ c. refl) kept)
      by (inr written) =
          inr
          (member_left_as k (with_member (disarmed s) k x) from to stay refl refl (λ i other. ap (λ (y : MemberState). y.log.stable) (at_other (disarmed s).member k i x other)) (λ c. refl)
          (subst (λ (y : MemberState). HasStable new.file (node.Member k) y.log.stable) (sym (at_same (disarmed s).member k x)) written))

  pub coord_fault_left : (k : ℕ) (y : CoordState) → 1 ≤ k → k ≤ s.coordinators → OtherFilesStay (node.Coord k) old new → LeftAs new.file (node.Coord k) (s.coord k).log.stable y.log.stable
      → AreLeftAs new.file s ⊎ AreLeftAs new.file (with_coord (disarmed s) k y)
  coord_fault_left k y from to stay left = by (left_split new.file (node.Coord k) (s.coord k).log.stable y.log.stable left)
    where
      by : HasStable new.file (node.Coord k) (s.coord k).log.stable ⊎ HasStable new.file (node.Coord k) y.log.stable → AreLeftAs new.file s ⊎ AreLeftAs new.file (with_coord (disarmed s) k y)
      by (inl kept) = inl (coord_left_as k s from to stay refl refl (λ i other. refl) (λ m. refl) kept)
      by (inr written) =
          inr
          (coord_left_as k (with_coord (disarmed s) k y) from to stay refl refl (λ i other. ap (λ (z : CoordState). z.log.stable) (at_other (disarmed s).coord k i y other)) (λ m. refl)
          (subst (λ (z : CoordState). HasStable new.file (node.Coord k) z.log.stable) (sym (at_same (disarmed s).coord k y)) written))

-- a fault of a node that is told as one of the federation
full_with : (owner : Node) (s : Federation) (records : List Record) → ((spot : Spot) → IsOverlong records → IsSpotOf owner spot → HasOverlong s spot) → (fault : NodeFault) → IsFullWith owner records fault → IsFullIn s (of_node fault)
full_with owner s records so (log.Device spot) full = tt
full_with owner s records so (log.Differs spot at kept read) full = tt
full_with owner s records so (log.Full spot) full = so spot full.0 full.1
full_with owner s records so log.Memory full = tt

module _ {E : Type 0} (takes : Kind → Type 0) (stands_for : E → EngineState → Type 0) (w : Cluster E) (s : Federation) (stands : RepresentsCluster takes stands_for w s) (old new : HomeView) (held : AreHeld old w) where
  -- a fault at the member of a number
  pub member_fault : (k p : ℕ) (m : Member E) (call : MemberCall) → suc p ≡ k → slice_get w.members.items p ≡ Some m → OtherFilesStay (node.Member m.number) old new
      → (fault : NodeFault) → ((x : MemberState) → RepresentsMember stands_for m x → IsLeftBy new.file (node.Member m.number) x.log.stable (member_does m.number call (member_disarmed x)).state.log.stable fault)
      → AreLeftWith new.file s (with_member (disarmed s) k (member_does k call (member_disarmed (s.member k))).state) (of_node fault)
  member_fault k p m call next is stay fault left =
      let here = stands.member p m is in
      let number : m.number ≡ k = here.number ∙ next in
      let below = within_list w.members.items p m is in
      let few : AreFew s = record { members = stands.few_members; coords = stands.few_coordinators } in
      let at_p = left (s.member (suc p)) here.stands in
      let at_number = subst (λ (j : ℕ). IsLeftBy new.file (node.Member j) (s.member (suc p)).log.stable (member_does j call (member_disarmed (s.member (suc p)))).state.log.stable fault) number at_p in
      let at_k = subst (λ (j : ℕ). IsLeftBy new.file (node.Member k) (s.member j).log.stable (member_does k call (member_disarmed (s.member j))).state.log.stable fault) next at_number in
      let x = (member_does k call (member_disarmed (s.member k))).state in
      let low : 1 ≤ k = omega (arith, next) in
      let high : k ≤ length s.kinds = omega (arith, below, stands.kinds, next) in (
        member_fault_left s few old new (held_left takes stands_for w s old stands held) k x low high (subst (λ (j : ℕ). OtherFilesStay (node.Member j) old new) number stay) at_k.0,
        full_with (node.Member k) (with_member (disarmed s) k x) x.log.stable (λ spot long own. OverlongMember k low high (subst (λ (y : MemberState). IsOverlong y.log.stable) (sym (at_same (disarmed s).member k x)) long) own) fault at_k.1,
      )

  -- so for a coordinator
  pub coord_fault : (k p : ℕ) (c : Coord) (call : CoordCall) → suc p ≡ k → slice_get w.coords.items p ≡ Some c → OtherFilesStay (node.Coord c.number) old new
      → (fault : NodeFault) → ((y : CoordState) → RepresentsCoord c y → IsLeftBy new.file (node.Coord c.number) y.log.stable (coord_does c.number call (coord_disarmed y)).state.log.stable fault)
      → AreLeftWith new.file s (with_coord (disarmed s) k (coord_does k call (coord_disarmed (s.coord k))).state) (of_node fault)
  coord_fault k p c call next is stay fault left =
      let here = stands.coord p c is in
      let number : c.number ≡ k = here.number ∙ next in
      let below = within_list w.coords.items p c is in
      let few : AreFew s = record { members = stands.few_members; coords = stands.few_coordinators } in
      let at_p = left (s.coord (suc p)) here.stands in
      let at_number = subst (λ (j : ℕ). IsLeftBy new.file (node.Coord j) (s.coord (suc p)).log.stable (coord_does j call (coord_disarmed (s.coord (suc p)))).state.log.stable fault) number at_p in
      let at_k = subst (λ (j : ℕ). IsLeftBy new.file (node.Coord k) (s.coord j).log.stable (coord_does k call (coord_disarmed (s.coord j))).state.log.stable fault) next at_number in
      let y = (coord_does k call (coord_disarmed (s.coord k))).state in
      let low : 1 ≤ k = omega (arith, next) in
      let high : k ≤ s.coordinators = omega (arith, below, stands.coordinators, next) in (
        coord_fault_left s few old new (held_left takes stands_for w s old stands held) k y low high (subst (λ (j : ℕ). OtherFilesStay (node.Coord j) old new) number stay) at_k.0,
        full_with (node.Coord k) (with_coord (disarmed s) k y) y.log.stable (λ spot long own. OverlongCoord k low high (subst (λ (z : CoordState). IsOverlong z.log.stable) (sym (at_same (disarmed s).coord k y)) long) own) fault at_k.1,
      )

-- ---- a step of the federation

-- decisions and messages are in no file
pub noted_left : (file : Spot → Option File) (s : Federation) (marks : List Mark) (messages : List Message) → AreLeftAs file s → AreLeftAs file (noted s marks messages)
noted_left file s marks messages left = record { member = left.member; coord = left.coord }

-- nor are they in a log
pub noted_overlong : (s : Federation) (marks : List Mark) (messages : List Message) (spot : Spot) → HasOverlong s spot → HasOverlong (noted s marks messages) spot
noted_overlong s marks messages spot (OverlongMember m low high long own) = OverlongMember m low high long own
noted_overlong s marks messages spot (OverlongCoord c low high long own) = OverlongCoord c low high long own

pub member_step_left : (file : Spot → Option File) (s : Federation) (k : ℕ) (up : Bool) (did : PlainMemberStep) → up ≡ true → AreLeftAs file (with_member s k did.state) → AreLeftAs file (up_member s k up did).state
member_step_left file s k up did is left =
    subst (λ (b : Bool). AreLeftAs file (up_member s k b did).state) (sym is) (noted_left file (with_member s k did.state) did.marks (message_list did.sent) left)

pub coord_step_left : (file : Spot → Option File) (s : Federation) (k : ℕ) (up : Bool) (did : PlainCoordStep) → up ≡ true → AreLeftAs file (with_coord s k did.state) → AreLeftAs file (up_coord s k up did).state
coord_step_left file s k up did is left =
    subst (λ (b : Bool). AreLeftAs file (up_coord s k b did).state) (sym is) (noted_left file (with_coord s k did.state) did.marks did.sent left)

pub member_step_overlong : (s : Federation) (k : ℕ) (up : Bool) (did : PlainMemberStep) → up ≡ true → (spot : Spot) → HasOverlong (with_member s k did.state) spot → HasOverlong (up_member s k up did).state spot
member_step_overlong s k up did is spot long =
    subst (λ (b : Bool). HasOverlong (up_member s k b did).state spot) (sym is) (noted_overlong (with_member s k did.state) did.marks (message_list did.sent) spot long)

pub coord_step_overlong : (s : Federation) (k : ℕ) (up : Bool) (did : PlainCoordStep) → up ≡ true → (spot : Spot) → HasOverlong (with_coord s k did.state) spot → HasOverlong (up_coord s k up did).state spot
coord_step_overlong s k up did is spot long =
    subst (λ (b : Bool). HasOverlong (up_coord s k b did).state spot) (sym is) (noted_overlong (with_coord s k did.state) did.marks did.sent spot long)

full_as : (s t : Federation) → ((spot : Spot) → HasOverlong s spot → HasOverlong t spot) → (fault : WorldFault) → IsFullIn s fault → IsFullIn t fault
full_as s t so (world.Device spot) full = tt
full_as s t so (world.Differs spot at kept read) full = tt
full_as s t so (world.InUse spot) full = tt
full_as s t so (world.Bad spot at) full = tt
full_as s t so (world.Full spot) full = so spot full
full_as s t so world.Count full = tt
full_as s t so (world.Old spot) full = tt
full_as s t so world.Memory full = tt

-- what came of an event has the logs that its node left
pub either_left : (file : Spot → Option File) (before start after completed other : Federation) (fault : WorldFault) → (AreLeftAs file start → AreLeftAs file before) → (AreLeftAs file other → AreLeftAs file completed) → ((spot : Spot) → HasOverlong other spot → HasOverlong completed spot) →
    AreLeftWith file start other fault → AreLeftBy file before after completed fault
either_left file before start after completed other fault was so long left = (by left.0, full_as other completed long fault left.1)
  where
    by : AreLeftAs file start ⊎ AreLeftAs file other → AreLeftNear file before after completed
    by (inl old) = inl (was old)
    by (inr new) = inr (inr (so new))
