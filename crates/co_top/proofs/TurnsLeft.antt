-- What turns leave, of a run over fresh logs and of its files.
use Rattle.std.proofs.Common.{◌≡◌, ◌≢◌, ◌↔◌, inl, inr, ℕ, suc, ◌<◌, true, false, List, [], ◌∷◌, ◌++◌, length, get_or, Option, refl, sym, subst, arith}
use Rattle.std.specs.Prelude.{AllPairs, Contains}
use Rattle.std.proofs.lemmas.List.Elements.{Contains-append_left, Contains-append_right, Contains-push}
use Rattle.co_cluster.specs.Left.{AreLeftAs}
use Rattle.co_cluster.specs.Listed.{IsDoubt, IsDoubtBefore}
use Rattle.co_cluster.specs.declared.doubting.Doubt.{Doubt}
use Rattle.co_coop.specs.Consulted.{IsCutAlong}
use Rattle.co_coop.specs.Remains.{AreOfOthers, CannotTell}
use Rattle.co_coop.specs.Resolution.{resolution, AreDoubts}
use Rattle.co_coop.proofs.Ends.{remains}
use Rattle.co_coop.proofs.Resolving.{all_true, all_own, listed_homes, run_behind, true_behind}
use Rattle.co_durable.specs.declared.fault.WorldFault.{WorldFault}
use Rattle.co_durable.specs.declared.fault.WorldFault.TheVariants as world
use Rattle.co_law.proofs.EveryOrder.{every_order}
use Rattle.co_law.proofs.EveryRun.{every_acknowledged, every_agreement, every_read}
use Rattle.co_law.proofs.GoingOn.{lines_true}
use Rattle.co_outside.specs.Home.{File}
use Rattle.co_outside.specs.declared.spot.Spot.{Spot}
use Rattle.co_plain.specs.Decisions.{BelongsTo, BegunThere, VotedBefore, AtCoordinator, AtMember, InThisRun, InOpenedFile}
use Rattle.co_plain.specs.Federation.{Federation}
use Rattle.co_plain.specs.Premises.{AreTrueVerdicts, AreOwn, IsTrueVerdict}
use Rattle.co_plain.specs.Quiet.{IsMember}
use Rattle.co_plain.specs.Runs.{run, lines}
use Rattle.co_plain.specs.Step.{step, disarmed}
use Rattle.co_plain.specs.declared.happening.Happening.{Happening}
use Rattle.co_plain.specs.declared.happening.Happening.TheVariants as happening
use Rattle.co_settle.specs.Reached.{IsReached}
use Rattle.co_top.specs.Ran.{Ran, start_of, end_of}
use Rattle.co_top.specs.Resolving.{AreListed, IsKeptAfter, RemainExactly, AreDoneOf, OutgrowsAlong}
use Rattle.co_top.proofs.Laws.{all_own as lines_own, openable}
use Rattle.co_top.proofs.Left.{left_after, own_more}

-- ---- listed doubts

pub are_doubts : (s : Federation) (doubts : List Doubt) → ((d : Doubt) → Contains doubts d → IsDoubt s d) → AreDoubts s doubts
are_doubts s [] each = tt
are_doubts s (d ∷ doubts) each = (
  each d (Contains-append_left (d ∷ []) doubts d (Contains-push [] d)),
  are_doubts s doubts (λ e within. each e (Contains-append_right (d ∷ []) doubts e within)),
)

pub listed_doubts : (s : Federation) (doubts : List Doubt) → AreListed s doubts → AreDoubts s doubts
listed_doubts s doubts are = are_doubts s doubts (λ d. (are.listed d).0)

not_before : (d e : Doubt) → IsDoubtBefore d e → (e.member ≡ d.member) × (e.txn ≡ d.txn) → ⊥
not_before d e (inl less) same = let t = same.1 in omega (arith, less, t)
not_before d e (inr less) same = let m = same.0 in let l = less.1 in omega (arith, l, m)

not_behind : (d e : Doubt) → IsDoubtBefore e d → (e.member ≡ d.member) × (e.txn ≡ d.txn) → ⊥
not_behind d e (inl less) same = let t = same.1 in omega (arith, less, t)
not_behind d e (inr less) same = let m = same.0 in let l = less.1 in omega (arith, l, m)

at_middle : (before after : List Doubt) (d other : Doubt) → get_or (before ++ d ∷ after) (length before) other ≡ d
at_middle [] after d other = refl
at_middle (x ∷ before) after d other = at_middle before after d other

middle_within : (before after : List Doubt) (d : Doubt) → length before < length (before ++ d ∷ after)
middle_within [] after d = omega arith
middle_within (x ∷ before) after d = let rest = middle_within before after d in omega (arith, rest)

pairs_behind : (x : Doubt) (xs : List Doubt) → AllPairs IsDoubtBefore (x ∷ xs) → AllPairs IsDoubtBefore xs
pairs_behind x xs pairs i j d less within = pairs (suc i) (suc j) d (omega (arith, less)) (omega (arith, within))

all_behind : (d : Doubt) (xs : List Doubt) → ((j : ℕ) (other : Doubt) → j < length xs → IsDoubtBefore d (get_or xs j other)) → AreOfOthers d xs
all_behind d [] each = tt
all_behind d (x ∷ xs) each = (not_before d x (each 0 x (omega arith)), all_behind d xs (λ j other within. each (suc j) other (omega (arith, within))))

others_behind : (before : List Doubt) (d : Doubt) (after : List Doubt) → AllPairs IsDoubtBefore (before ++ d ∷ after) → AreOfOthers d after
others_behind [] d after pairs = all_behind d after (λ j other within. pairs 0 (suc j) other (omega arith) (omega (arith, within)))
others_behind (x ∷ before) d after pairs = others_behind before d after (pairs_behind x (before ++ d ∷ after) pairs)

others_before : (before : List Doubt) (d : Doubt) (after : List Doubt) → AllPairs IsDoubtBefore (before ++ d ∷ after) → AreOfOthers d before
others_before [] d after pairs = tt
others_before (x ∷ before) d after pairs = (
  not_behind d x (subst (IsDoubtBefore x) (at_middle before after d d) (pairs 0 (suc (length before)) d (omega arith) (let within = middle_within before after d in omega (arith, within)))),
  others_before before d after (pairs_behind x (before ++ d ∷ after) pairs),
)

pub remain_exactly : (s : Federation) (doubts : List Doubt) → IsReached s → AreListed s doubts → RemainExactly s doubts
remain_exactly s doubts r are before after d parts up =
    let listed = subst (AreDoubts s) (sym parts) (listed_doubts s doubts are) in
    let pairs = subst (AllPairs IsDoubtBefore) (sym parts) are.ascending in
    subst (λ (ds : List Doubt). IsDoubt (run (resolution s ds) s) d ↔ ((other : ℕ) → IsMember s other → other ≢ d.member → CannotTell (run (resolution s before) s) d other)) parts
    (remains s before after d r listed (others_before before d after pairs) (others_behind before d after pairs) (subst (λ (ds : List Doubt). ((run (resolution s ds) s).member d.member).up ≡ true) (sym parts) up))

-- ---- a fault among happenings

pub done_files : (hs : List Happening) (s : Federation) (file : Spot → Option File) (fault : WorldFault) → IsCutAlong hs s file fault → (done : List Happening) × AreDoneOf hs done × AreLeftAs file (run done s)
done_files [] s file fault cut = ([], refl, cut.0)
done_files (h ∷ hs) s file fault (inl (inl before, full)) = ([], inl refl, before)
done_files (h ∷ hs) s file fault (inl (inr (inl after), full)) = (h ∷ [], inr (inr ([], refl, nothing_done hs)), after)
  where
    nothing_done : (hs : List Happening) → AreDoneOf hs []
    nothing_done [] = refl
    nothing_done (h ∷ hs) = inl refl
done_files (h ∷ hs) s file fault (inl (inr (inr completed), full)) = (happening.Disarm ∷ h ∷ [], inr (inl refl), completed)
done_files (h ∷ hs) s file fault (inr cut) = let rest = done_files hs (step s h).state file fault cut in (h ∷ rest.0, inr (inr (rest.0, refl, rest.1)), rest.2)

pub outgrows : (hs : List Happening) (s : Federation) (file : Spot → Option File) (spot : Spot) → IsCutAlong hs s file (world.Full spot) → OutgrowsAlong hs s spot
outgrows [] s file spot cut = let z : world.Full spot ≡ world.Memory = cut.1 in cc
outgrows (h ∷ hs) s file spot (inl near) = inl near.1
outgrows (h ∷ hs) s file spot (inr cut) = inr (outgrows hs (step s h).state file spot cut)

-- a verdict is true where no stop is armed too
belongs_disarmed : (s : Federation) (t c : ℕ) → BelongsTo s t c → BelongsTo (disarmed s) t c
belongs_disarmed s t c (BegunThere session e by) = BegunThere session e by
belongs_disarmed s t c (VotedBefore m h) = VotedBefore m h

true_disarmed : (s : Federation) (h : Happening) → IsTrueVerdict s h → IsTrueVerdict (disarmed s) h
true_disarmed s (happening.Line e) v = tt
true_disarmed s (happening.Hand t m true) (InThisRun e) = InThisRun e
true_disarmed s (happening.Hand t m true) (InOpenedFile c e) = InOpenedFile c e
true_disarmed s (happening.Hand t m false) (AtCoordinator c belongs none undecided unopened) = AtCoordinator c (belongs_disarmed s t c belongs) none undecided unopened
true_disarmed s (happening.Hand t m false) (AtMember session m' found by undecided over) = AtMember session m' found by undecided over
true_disarmed s happening.Disarm v = tt

pub done_true : (hs done : List Happening) (s : Federation) → AreDoneOf hs done → AreTrueVerdicts hs s → AreTrueVerdicts done s
done_true [] done s is v = subst (λ (ds : List Happening). AreTrueVerdicts ds s) (sym is) tt
done_true (h ∷ hs) done s (inl is) v = subst (λ (ds : List Happening). AreTrueVerdicts ds s) (sym is) tt
done_true (h ∷ hs) done s (inr (inl is)) v = subst (λ (ds : List Happening). AreTrueVerdicts ds s) (sym is) (tt, (true_disarmed s h v.0, tt))
done_true (h ∷ hs) done s (inr (inr (more, is, rest))) v = subst (λ (ds : List Happening). AreTrueVerdicts ds s) (sym is) (v.0, done_true hs more (step s h).state rest v.1)

pub done_own : (n k : ℕ) (hs done : List Happening) → AreDoneOf hs done → AreOwn n k hs → AreOwn n k done
done_own n k [] done is own = subst (AreOwn n k) (sym is) tt
done_own n k (h ∷ hs) done (inl is) own = subst (AreOwn n k) (sym is) tt
done_own n k (h ∷ hs) done (inr (inl is)) own = subst (AreOwn n k) (sym is) (tt, (own.0, tt))
done_own n k (h ∷ hs) done (inr (inr (more, is, rest))) own = subst (AreOwn n k) (sym is) (own.0, done_own n k hs more rest own.1)

-- ---- what is kept

module _ {input : List ℕ} {old : Spot → Option File} (r : Ran false input old) (more : List Happening) (file : Spot → Option File) where
  -- happenings of own nodes behind the lines, whose verdicts are true
  pub kept_after : AreOwn (length r.head.kinds) r.head.coords more → AreTrueVerdicts more (end_of r) → AreLeftAs file (run more (end_of r)) → IsKeptAfter r (lines r.events ++ more) file
  kept_after own verdicts left =
      let hs = lines r.events ++ more in
      let g = openable r (inl refl) in
      let v = true_behind (lines r.events) more (start_of r) (lines_true r.events (start_of r)) verdicts in
      record {
        serial_reads = every_read r.head.kinds r.head.coords r.found_member r.found_coord hs g v;
        acknowledged = every_acknowledged r.head.kinds r.head.coords r.found_member r.found_coord hs g v;
        agreement = every_agreement r.head.kinds r.head.coords r.found_member r.found_coord hs g v;
        true_verdicts = v;
        ordered = every_order r.head.kinds r.head.coords r.found_member r.found_coord hs g v;
        files = left_after r file hs
            (record { own = own_more (length r.head.kinds) r.head.coords (lines r.events) more (lines_own r.head r.events r.valid) own; true_there = v })
            (subst (AreLeftAs file) (sym (run_behind (lines r.events) more (start_of r))) left);
      }

  pub kept_by_turns : (turns : List Doubt) → more ≡ resolution (end_of r) turns → IsReached (end_of r) → AreDoubts (end_of r) turns → AreLeftAs file (run more (end_of r)) → IsKeptAfter r (lines r.events ++ more) file
  kept_by_turns turns is reached listed left =
      kept_after (subst (AreOwn (length r.head.kinds) r.head.coords) (sym is) (all_own (length r.head.kinds) r.head.coords (end_of r) turns))
      (subst (λ (hs : List Happening). AreTrueVerdicts hs (end_of r)) (sym is) (all_true (end_of r) turns reached (listed_homes (end_of r) turns reached listed))) left
