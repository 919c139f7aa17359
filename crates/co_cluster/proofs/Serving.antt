-- How a call of one node leaves the directory: what was answered of its log write, as one fact, and how the calls do that write nothing.
use Rattle.std.proofs.Common.{◌≡◌, ◌<◌, ◌≢◌, ◌⊎◌, ℕ, Bool, true, false, refl, sym, ap, subst, ◌∙◌, inl, inr, arith}
use Rattle.std.specs.Prelude.{List, reverse, Option, None, Some, is_some, Result, Ok, Err, IfErr, OnOk, IsOk}
use Rattle.co_base.specs.declared.mark.Mark.{Mark}
use Rattle.co_base.specs.declared.node.Node.{Node}
use Rattle.co_base.specs.declared.node.Node.TheVariants as node
use Rattle.co_durable.proofs.Spots.{same_or_other, all_stay}
use Rattle.co_base.specs.Limits.{most_log_bytes}
use Rattle.co_log.specs.Attaching.{IsWithin}
use Rattle.co_log.specs.LogView.{LogView, IsHeld, HasSpots, spot_of}
use Rattle.co_log.specs.Others.{OtherFilesStay, OtherNodesStay}
use Rattle.co_log.specs.Rereading.{IsOfReattach}
use Rattle.co_log.specs.declared.fault.LogFault.TheVariants as log_fault
use Rattle.co_log.specs.declared.fault.NodeFault.{NodeFault}
use Rattle.co_log.specs.declared.fault.NodeFault.TheVariants.{Device, Differs, Full, Memory}
use Rattle.co_node.specs.Answers.{IsAnswered}
use Rattle.co_node.specs.Rereading.{IsReread}
use Rattle.co_node.specs.declared.written.Written.{Written}
use Rattle.co_node.specs.declared.written.Written.TheVariants.{Done}
use Rattle.co_opening.specs.Nodes.{IsKept}
use Rattle.co_outside.specs.Home.{File, IsClean, HomeView}
use Rattle.co_outside.specs.declared.spot.Spot.{Spot}
use Rattle.co_record.specs.declared.record.Record.{Record}
use Rattle.co_coord.specs.Opening.{IsRestarted}
use Rattle.co_coord.specs.Standing.{marks_in as marks_of_coord, written_by as written_by_coord}
use Rattle.co_coord.specs.declared.step.CoordStep.{CoordStep}
use Rattle.co_member.specs.Attaching.{read_by}
use Rattle.co_member.specs.Standing.{marks_in as marks_of_member, written_by as written_by_member}
use Rattle.co_coord.specs.Restating.{restated, IsCheckpointed as IsCoordCheckpointed}
use Rattle.co_node.specs.Writing.{IsAnsweredFor, IsTooLongFor, stable_after, written_with}
use Rattle.co_node.specs.declared.writing.Writes.{Writes}
use Rattle.co_member.specs.Checkpoint.{spare_items, IsAnsweredIn, IsCheckpointed as IsMemberCheckpointed}
use Rattle.co_log.specs.Spare.{IsOverfull}
use Rattle.co_node.specs.Writes.{filled_with}
use Rattle.co_node.proofs.Homes.{still_clean}
use Rattle.co_plain.specs.LogWrite.{generation_of}
use Rattle.co_plain.specs.MemberLog.{member_spare}
use Rattle.co_plain.specs.Numbers.{next_generation}
use Rattle.co_plain.specs.declared.coord_state.CoordState.{CoordState}
use Rattle.co_plain.specs.declared.log_state.LogState.{LogState}
use Rattle.co_plain.specs.declared.member_state.MemberState.{MemberState}
use Rattle.co_member.specs.declared.step.MemberStep.{MemberStep}
use Rattle.co_cluster.specs.Served.{IsServed, HasFailedAs}

-- ---- every file

-- files that are clean at two places, and stay everywhere else
clean_everywhere : (a b : Spot) (old new : HomeView) → ((s : Spot) → s ≢ a → s ≢ b → new.file s ≡ old.file s) → (IsClean old a → IsClean new a) → (IsClean old b → IsClean new b) → (s : Spot) → IsClean old s → IsClean new s
clean_everywhere a b old new others at_a at_b s = by (same_or_other s a) (same_or_other s b)
  where
    by : (s ≡ a) ⊎ (s ≢ a) → (s ≡ b) ⊎ (s ≢ b) → IsClean old s → IsClean new s
    by (inl e) other was = subst (λ (t : Spot). IsClean new t) (sym e) (at_a (subst (λ (t : Spot). IsClean old t) e was))
    by (inr n) (inl e) was = subst (λ (t : Spot). IsClean new t) (sym e) (at_b (subst (λ (t : Spot). IsClean old t) e was))
    by (inr n) (inr m) was = still_clean old new s (others s n m) was

-- the files of a log stay, and all others do
pub files_stay : (owner : Node) (log : LogView) (old new : HomeView) → log.node ≡ owner → HasSpots log → new.file log.current.spot ≡ old.file log.current.spot → new.file log.spare.spot ≡ old.file log.spare.spot
    → OtherFilesStay owner old new → (s : Spot) → new.file s ≡ old.file s
files_stay owner log old new owned spots current spare stay =
    all_stay new.file old.file (spot_of owner 0) (spot_of owner 1) (at_a spots) (at_b spots) stay.files
  where
    at_a : HasSpots log → new.file (spot_of owner 0) ≡ old.file (spot_of owner 0)
    at_a (inl own) = subst (λ (s : Spot). new.file s ≡ old.file s) (own.0 ∙ ap (λ (n : Node). spot_of n 0) owned) current
    at_a (inr own) = subst (λ (s : Spot). new.file s ≡ old.file s) (own.1 ∙ ap (λ (n : Node). spot_of n 0) owned) spare

    at_b : HasSpots log → new.file (spot_of owner 1) ≡ old.file (spot_of owner 1)
    at_b (inl own) = subst (λ (s : Spot). new.file s ≡ old.file s) (own.1 ∙ ap (λ (n : Node). spot_of n 1) owned) spare
    at_b (inr own) = subst (λ (s : Spot). new.file s ≡ old.file s) (own.0 ∙ ap (λ (n : Node). spot_of n 1) owned) current

-- ---- a call that may write

module _ (owner : Node) (at : Spot) (long : Type 0) (this that : List Record) (log : LogView) (old new : HomeView) where
  pub answered_served : (r : Result Written NodeFault) → IsAnswered owner at long this that log old new r → OtherFilesStay owner old new → OnOk r (IsServed owner log old new)
  answered_served (Ok written) answered stay =
      let node = answered.1 in
      record {
        kept = record { held = node.held; within = node.within };
        clean = clean_everywhere (spot_of owner 0) (spot_of owner 1) old new stay.files node.clean_a node.clean_b;
        quiet = node.quiet;
      }
  answered_served (Err e) answered stay = tt

  pub answered_ended : (r : Result Written NodeFault) → IsAnswered owner at long this that log old new r → IfErr r (λ fault. HasFailedAs fault old new)
  answered_ended (Ok written) answered = tt
  answered_ended (Err (Device spot)) answered = (answered.1.count, answered.1.last)
  answered_ended (Err (Differs spot place kept read)) answered = absurd answered
  answered_ended (Err (Full spot)) answered = answered.untouched
  answered_ended (Err Memory) answered = answered.quiet

  -- so of a step with these marks
  pub step_served : {D : Type 0} (marks : D → List Mark) (out : Result D NodeFault) → IsAnswered owner at long this that log old new (written_with marks out) → OtherFilesStay owner old new → OnOk out (IsServed owner log old new)
  step_served marks (Ok d) answered stay = answered_served (Ok (Done (marks d))) answered stay
  step_served marks (Err e) answered stay = tt

  pub step_ended : {D : Type 0} (marks : D → List Mark) (out : Result D NodeFault) → IsAnswered owner at long this that log old new (written_with marks out) → IfErr out (λ fault. HasFailedAs fault old new)
  step_ended marks (Ok d) answered = tt
  step_ended marks (Err e) answered = answered_ended (Err e) answered

-- a plan of a member or of a coordinator
module _ {D : Type 0} (marks : D → List Mark) (w : Writes) (owner : Node) (l : LogState) (log after : LogView) (old new : HomeView) (out : Result D NodeFault) (answered : IsAnsweredFor w owner l log after old new (written_with marks out)) where
  pub plan_served : log.node ≡ owner → OtherFilesStay log.node old new → OnOk out (IsServed owner after old new)
  plan_served owned stay =
      step_served owner log.current.spot (IsTooLongFor w log) l.stable (stable_after w l) after old new marks out answered (subst (λ (n : Node). OtherFilesStay n old new) owned stay)

  pub plan_ended : IfErr out (λ fault. HasFailedAs fault old new)
  plan_ended = step_ended owner log.current.spot (IsTooLongFor w log) l.stable (stable_after w l) after old new marks out answered

-- ---- a checkpoint

checkpoint_by_served : (m : ℕ) (x : MemberState) (log after : LogView) (old new : HomeView) (out : Result MemberStep NodeFault) (closed : Bool) → IsAnsweredIn closed m x log after old new (written_by_member out) → OtherFilesStay (node.Member m) old new
    → OnOk out (IsServed (node.Member m) after old new)
checkpoint_by_served m x log after old new out false answered stay = step_served (node.Member m) log.spare.spot ⊥ x.log.stable x.log.stable after old new marks_of_member out answered stay
checkpoint_by_served m x log after old new out true answered stay =
    step_served (node.Member m) log.spare.spot (IsOverfull log (spare_items x)) x.log.stable (member_spare m x (next_generation (generation_of x.log.stable))) after old new marks_of_member out answered stay

pub checkpoint_served : (m : ℕ) (x : MemberState) (log after : LogView) (old new : HomeView) (out : Result MemberStep NodeFault) → IsMemberCheckpointed m x log after old new (written_by_member out) → log.node ≡ node.Member m → OtherFilesStay log.node old new
    → OnOk out (IsServed (node.Member m) after old new)
checkpoint_served m x log after old new out answered owned stay =
    checkpoint_by_served m x log after old new out x.log.spare_closed answered (subst (λ (n : Node). OtherFilesStay n old new) owned stay)

checkpoint_by_ended : (m : ℕ) (x : MemberState) (log after : LogView) (old new : HomeView) (out : Result MemberStep NodeFault) (closed : Bool) → IsAnsweredIn closed m x log after old new (written_by_member out) → IfErr out (λ fault. HasFailedAs fault old new)
checkpoint_by_ended m x log after old new out false answered = step_ended (node.Member m) log.spare.spot ⊥ x.log.stable x.log.stable after old new marks_of_member out answered
checkpoint_by_ended m x log after old new out true answered =
    step_ended (node.Member m) log.spare.spot (IsOverfull log (spare_items x)) x.log.stable (member_spare m x (next_generation (generation_of x.log.stable))) after old new marks_of_member out answered

pub checkpoint_ended : (m : ℕ) (x : MemberState) (log after : LogView) (old new : HomeView) (out : Result MemberStep NodeFault) → IsMemberCheckpointed m x log after old new (written_by_member out) → IfErr out (λ fault. HasFailedAs fault old new)
checkpoint_ended m x log after old new out answered = checkpoint_by_ended m x log after old new out x.log.spare_closed answered

coord_checkpoint_by_served : (owner : Node) (y : CoordState) (log after : LogView) (old new : HomeView) (out : Result CoordStep NodeFault) (closed : Bool) → IsCoordCheckpointed closed owner y log after old new (written_by_coord out) → OtherFilesStay owner old new
    → OnOk out (IsServed owner after old new)
coord_checkpoint_by_served owner y log after old new out false answered stay = step_served owner log.spare.spot ⊥ y.log.stable y.log.stable after old new marks_of_coord out answered stay
coord_checkpoint_by_served owner y log after old new out true answered stay =
    step_served owner log.spare.spot (IsOverfull log (reverse (restated y))) y.log.stable (filled_with owner y.log (restated y)) after old new marks_of_coord out answered stay

pub coord_checkpoint_served : (owner : Node) (y : CoordState) (log after : LogView) (old new : HomeView) (out : Result CoordStep NodeFault) → IsCoordCheckpointed y.log.spare_closed owner y log after old new (written_by_coord out) → log.node ≡ owner → OtherFilesStay log.node old new
    → OnOk out (IsServed owner after old new)
coord_checkpoint_served owner y log after old new out answered owned stay =
    coord_checkpoint_by_served owner y log after old new out y.log.spare_closed answered (subst (λ (n : Node). OtherFilesStay n old new) owned stay)

coord_checkpoint_by_ended : (owner : Node) (y : CoordState) (log after : LogView) (old new : HomeView) (out : Result CoordStep NodeFault) (closed : Bool) → IsCoordCheckpointed closed owner y log after old new (written_by_coord out) → IfErr out (λ fault. HasFailedAs fault old new)
coord_checkpoint_by_ended owner y log after old new out false answered = step_ended owner log.spare.spot ⊥ y.log.stable y.log.stable after old new marks_of_coord out answered
coord_checkpoint_by_ended owner y log after old new out true answered =
    step_ended owner log.spare.spot (IsOverfull log (reverse (restated y))) y.log.stable (filled_with owner y.log (restated y)) after old new marks_of_coord out answered

pub coord_checkpoint_ended : (owner : Node) (y : CoordState) (log after : LogView) (old new : HomeView) (out : Result CoordStep NodeFault) → IsCoordCheckpointed y.log.spare_closed owner y log after old new (written_by_coord out) → IfErr out (λ fault. HasFailedAs fault old new)
coord_checkpoint_ended owner y log after old new out answered = coord_checkpoint_by_ended owner y log after old new out y.log.spare_closed answered

-- ---- a call that is not given the directory

pub still_served : {A : Type 0} (out : Result A NodeFault) (owner : Node) (log after : LogView) (home : HomeView) → IsKept home owner log → IsHeld home after → OnOk out (IsServed owner after home home)
still_served (Ok d) owner log after home kept held = record { kept = record { held = held; within = kept.within }; clean = λ s was. was; quiet = refl }
still_served (Err e) owner log after home kept held = tt

pub others_still : (owner : Node) (home : HomeView) → OtherNodesStay owner home home
others_still owner home = record { others = record { files = λ s a b. refl; reaches = λ s a b. refl }; told = λ s none. none; directory = refl; count = omega arith }

-- ---- a restart

module _ {H : Type 0} (gives : H → Spot → ℕ → List ℕ → Type 0) (seen : H → HomeView) (log : LogView) (old new : H) where
  -- how a restart leaves the directory, apart from its faults
  pub record IsLeft (owner : Node) (after : LogView) : Type 0 where
    pub owned : log.node ≡ owner
    pub kept : IsKept (seen old) owner log
    pub held : IsHeld (seen new) after
    pub current : (seen new).file log.current.spot ≡ (seen old).file log.current.spot
    pub spare : (seen new).file log.spare.spot ≡ (seen old).file log.spare.spot
    pub rest : OtherNodesStay owner (seen old) (seen new)

  left_served : (owner : Node) (after : LogView) → IsLeft owner after → (seen new).faults ≡ (seen old).faults → IsServed owner after (seen old) (seen new)
  left_served owner after left quiet =
      let stay = files_stay owner log (seen old) (seen new) left.owned left.kept.held.spots left.current left.spare left.rest.others in
      record {
        kept = record {
          held = left.held;
          within = record {
            a = subst (λ (o : Option File). IsWithin most_log_bytes o) (sym (stay (spot_of owner 0))) left.kept.within.a;
            b = subst (λ (o : Option File). IsWithin most_log_bytes o) (sym (stay (spot_of owner 1))) left.kept.within.b;
          };
        };
        clean = λ s was. still_clean (seen old) (seen new) s (stay s) was;
        quiet = quiet;
      }

  -- a file of a log is its part a or its part b
  in_parts : (spot : Spot) → HasSpots log → (spot ≡ log.current.spot) ⊎ (spot ≡ log.spare.spot) → spot.part < 2
  in_parts spot (inl are) (inl is) = let p : spot.part ≡ 0 = ap (λ (s : Spot). s.part) (is ∙ are.0) in omega (arith, p)
  in_parts spot (inl are) (inr is) = let p : spot.part ≡ 1 = ap (λ (s : Spot). s.part) (is ∙ are.1) in omega (arith, p)
  in_parts spot (inr are) (inl is) = let p : spot.part ≡ 1 = ap (λ (s : Spot). s.part) (is ∙ are.0) in omega (arith, p)
  in_parts spot (inr are) (inr is) = let p : spot.part ≡ 0 = ap (λ (s : Spot). s.part) (is ∙ are.1) in omega (arith, p)

  named_untold : (spot : Spot) (at : ℕ) (kept read : Option ℕ) → HasSpots log → IsOfReattach gives seen log old (log_fault.Differs spot at kept read) → ((seen old).file spot ≡ None) × (spot.part < 2)
  named_untold spot at kept read spots (inl of) = (ap (seen old).file of.0 ∙ of.1.2.untold, in_parts spot spots (inl of.0))
  named_untold spot at kept read spots (inr of) = (ap (seen old).file of.fault.0 ∙ of.fault.1.2.untold, in_parts spot spots (inr of.fault.0))

  reread_ended : HasSpots log → (r : Result (Unit {0}) NodeFault) → IsReread gives seen log old new r → IfErr r (λ fault. HasFailedAs fault (seen old) (seen new))
  reread_ended spots (Ok done) reread = tt
  reread_ended spots (Err (Device spot)) reread = (reread.1.count, reread.1.named)
  reread_ended spots (Err (Differs spot at kept read)) reread = let untold = named_untold spot at kept read spots reread.0 in (reread.1, untold.0, untold.1)
  reread_ended spots (Err (Full spot)) reread = absurd reread
  reread_ended spots (Err Memory) reread = reread

  -- a member that was up, or down
  pub member_restarted : {R : Type 0} (owner : Node) (after : LogView) (running : Option R) (out : Result MemberStep NodeFault) → IsLeft owner after → (is_some running ≡ true → IsOk out × (new ≡ old))
      → (running ≡ None → IsReread gives seen log old new (read_by out)) → OnOk out (IsServed owner after (seen old) (seen new))
  member_restarted owner after None (Ok d) left stays reread = left_served owner after left ((reread refl).1)
  member_restarted owner after (Some r) (Ok d) left stays reread = left_served owner after left (ap (λ h. (seen h).faults) (stays refl).1)
  member_restarted owner after running (Err e) left stays reread = tt

  pub member_unrestarted : {R : Type 0} → HasSpots log → (running : Option R) (out : Result MemberStep NodeFault) → (is_some running ≡ true → IsOk out × (new ≡ old)) → (running ≡ None → IsReread gives seen log old new (read_by out))
      → IfErr out (λ fault. HasFailedAs fault (seen old) (seen new))
  member_unrestarted spots running (Ok d) stays reread = tt
  member_unrestarted spots None (Err e) stays reread = reread_ended spots (Err e) (reread refl)
  member_unrestarted spots (Some r) (Err e) stays reread = let h : false ≡ true = (stays refl).0 in absurd cc

  -- so for a coordinator
  pub coord_restarted : (owner : Node) (after : LogView) (up : Bool) (out : Result CoordStep NodeFault) → IsLeft owner after → IsRestarted up gives seen log old new out
      → OnOk out (IsServed owner after (seen old) (seen new))
  coord_restarted owner after true (Ok d) left is = left_served owner after left (ap (λ h. (seen h).faults) is.1)
  coord_restarted owner after false (Ok d) left is = left_served owner after left is.1
  coord_restarted owner after up (Err e) left is = tt

  pub coord_unrestarted : HasSpots log → (up : Bool) (out : Result CoordStep NodeFault) → IsRestarted up gives seen log old new out
      → IfErr out (λ fault. HasFailedAs fault (seen old) (seen new))
  coord_unrestarted spots up (Ok d) is = tt
  coord_unrestarted spots true (Err e) is = let h : false ≡ true = is.0 in absurd cc
  coord_unrestarted spots false (Err e) is = reread_ended spots (Err e) is
