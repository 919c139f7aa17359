-- Spare files that are filled one after another.
use Rattle.std.proofs.Common.{◌≡◌, ◌≢◌, inl, inr, ℕ, ◌+◌, Result, Ok, Err, List, [], ◌∷◌, ◌++◌, map, length, Option, None, refl, sym, ap, subst, ◌∙◌, append_assoc, append-nil, arith}
use Rattle.std.proofs.lemmas.List.{map-append, length-append}
use Rattle.std.specs.List.{AllByRecursion}
use Rattle.std.specs.Prelude.{IsErrOf}
use Rattle.std.specs.Result.{IsErrAnd}
use Rattle.co_base.specs.Nodes.{IsValidNode}
use Rattle.co_base.specs.Limits.{most_log_bytes}
use Rattle.co_base.specs.declared.node.Node.{Node}
use Rattle.co_outside.specs.Home.{File, HomeView, HasFailed}
use Rattle.co_outside.specs.declared.spot.Spot.{Spot}
use Rattle.co_log.specs.Attaching.{IsWithin}
use Rattle.co_log.specs.LogView.{LogView, HasSpots, spot_of}
use Rattle.co_log.specs.NodeFiles.{Items}
use Rattle.co_log.specs.Others.{OtherFilesStay, OtherNodesStay}
use Rattle.co_log.proofs.Spots.{at_each, bytes_apart, held_stays, stays_elsewhere}
use Rattle.co_durable.proofs.Firsts.{all_front, all_back}
use Rattle.co_durable.proofs.Pairs.{all_append}
use Rattle.co_durable.proofs.Readings.{fails_later}
use Rattle.co_opening.specs.Rest.{IsSpotOf}
use Rattle.co_migrate.specs.declared.fault.MigrateFault.{MigrateFault}
use Rattle.co_migrate.specs.declared.fault.MigrateFault.TheVariants.{Device, Bad, Full, Memory}
use Rattle.co_migrate.specs.declared.planning.Refill.{Refill}
use Rattle.co_migrate.specs.Refilling.{MayRefill, IsLeftSo, IsFilledAs, StaysClean, AreApart, refill_node, IsRefilled, LeavesRefill, OnlyTheseChange, AreCutAt, AreRefilledAs}

-- ---- nodes that are not one

apart_both : (xs ys : List Node) (n : Node) → AreApart (xs ++ n ∷ ys) → AllByRecursion (λ m. m ≢ n) xs × AllByRecursion (λ m. m ≢ n) ys
apart_both [] ys n apart = (tt, turned ys apart.0)
  where
    turned : (ms : List Node) → AllByRecursion (λ m. n ≢ m) ms → AllByRecursion (λ m. m ≢ n) ms
    turned [] all = tt
    turned (m ∷ ms) all = ((λ e. all.0 (sym e)), turned ms all.1)
apart_both (x ∷ xs) ys n apart =
    let more = apart_both xs ys n apart.1 in
    (((all_back (λ m. x ≢ m) xs (n ∷ ys) apart.0).0, more.0), more.1)

on_nodes : (P : Node → Type 0) (xs : List Refill) → AllByRecursion P (map refill_node xs) → AllByRecursion (λ (x : Refill). P (refill_node x)) xs
on_nodes P [] all = tt
on_nodes P (x ∷ xs) all = (all.0, on_nodes P xs all.1)

-- the nodes before and behind one of a plan are others
pub others_apart : (before behind : List Refill) (at : Refill) (plan : List Refill) → plan ≡ before ++ at ∷ behind → AreApart (map refill_node plan)
    → AllByRecursion (λ (x : Refill). refill_node x ≢ refill_node at) before × AllByRecursion (λ (x : Refill). refill_node x ≢ refill_node at) behind
others_apart before behind at plan split apart =
    let both = apart_both (map refill_node before) (map refill_node behind) (refill_node at) (subst AreApart (ap (map refill_node) split ∙ map-append refill_node before (at ∷ behind)) apart) in
    (on_nodes (λ m. m ≢ refill_node at) before both.0, on_nodes (λ m. m ≢ refill_node at) behind both.1)

-- ---- the files of a log

-- its two files are those of its node
abbrev IsOfNode : Refill → Type 0
IsOfNode x = IsValidNode (refill_node x) × HasSpots x.log

of_nodes : (home : HomeView) (xs : List Refill) → AllByRecursion (MayRefill home) xs → AllByRecursion IsOfNode xs
of_nodes home [] all = tt
of_nodes home (x ∷ xs) all = ((all.0.rest.ordered.valid, all.0.rest.held.spots), of_nodes home xs all.1)

module _ (so : Items → List ℕ → List ℕ → Type 0) (log : LogView) (spots : HasSpots log) (old mid new : Spot → Option File) where
  -- files that are not touched again are left so
  so_still : new (spot_of log.node 0) ≡ mid (spot_of log.node 0) → new (spot_of log.node 1) ≡ mid (spot_of log.node 1) → IsLeftSo so log old mid → IsLeftSo so log old new
  so_still a b left =
      let same = at_each (λ s. new s ≡ mid s) log spots a b in
      record {
        current = λ items ordered c s told_c told_s. left.current items ordered c s (sym same.0 ∙ told_c) (sym same.1 ∙ told_s);
        kept = same.0 ∙ left.kept;
        short = (subst (IsWithin most_log_bytes) (sym same.0) left.short.0, subst (IsWithin most_log_bytes) (sym same.1) left.short.1);
      }

  -- and files that were not touched before
  so_first : mid log.current.spot ≡ old log.current.spot → IsLeftSo so log mid new → IsLeftSo so log old new
  so_first same left = record { current = left.current; kept = left.kept ∙ same; short = left.short }

-- the files of one log are not those of others
pub spots_elsewhere : (at other : Node) (s : Spot) → IsValidNode at → IsValidNode other → other ≢ at → IsSpotOf at s → IsSpotOf other s → ⊥
spots_elsewhere at other s one two apart this that = apart (bytes_apart other at two one (byte that ∙ sym (byte' this)))
  where
    byte : IsSpotOf other s → (spot_of other 0).node ≡ s.node
    byte (inl e) = ap (λ (x : Spot). x.node) (sym e)
    byte (inr e) = ap (λ (x : Spot). x.node) (sym e)

    byte' : IsSpotOf at s → (spot_of at 0).node ≡ s.node
    byte' (inl e) = ap (λ (x : Spot). x.node) (sym e)
    byte' (inr e) = ap (λ (x : Spot). x.node) (sym e)

own_current : (x : Refill) → HasSpots x.log → IsSpotOf (refill_node x) x.log.current.spot
own_current x (inl own) = inl own.0
own_current x (inr own) = inr own.0

not_of : (s : Spot) (at : Node) → IsValidNode at → IsSpotOf at s → (xs : List Refill) → AllByRecursion IsOfNode xs → AllByRecursion (λ (x : Refill). refill_node x ≢ at) xs → AllByRecursion (λ (x : Refill). IsSpotOf (refill_node x) s → ⊥) xs
not_of s at valid is [] own apart = tt
not_of s at valid is (x ∷ xs) own apart = (spots_elsewhere at (refill_node x) s valid own.0.0 apart.0 is, not_of s at valid is xs own.1 apart.1)

-- ---- one more log

filled_still : (old mid new : HomeView) (at : Node) → IsValidNode at → OtherFilesStay at mid new → (xs : List Refill) → AllByRecursion IsOfNode xs → AllByRecursion (λ (x : Refill). refill_node x ≢ at) xs
    → AllByRecursion (IsRefilled old.file mid.file) xs → AllByRecursion (IsRefilled old.file new.file) xs
filled_still old mid new at valid stay [] own apart all = tt
filled_still old mid new at valid stay (x ∷ xs) own apart all =
    let s = stays_elsewhere at (refill_node x) mid new valid own.0.0 apart.0 stay in (
      (so_still _ x.log own.0.1 old.file mid.file new.file s.file_a s.file_b all.0.0, all.0.1),
      filled_still old mid new at valid stay xs own.1 apart.1 all.1,
    )

may_still : (mid new : HomeView) (at : Node) → IsValidNode at → OtherFilesStay at mid new → (xs : List Refill) → AllByRecursion (λ (x : Refill). refill_node x ≢ at) xs → AllByRecursion (MayRefill mid) xs → AllByRecursion (MayRefill new) xs
may_still mid new at valid stay [] apart all = tt
may_still mid new at valid stay (x ∷ xs) apart all =
    let r = all.0.rest in
    let s = stays_elsewhere at (refill_node x) mid new valid r.ordered.valid apart.0 stay in
    let same = at_each (λ t. new.file t ≡ mid.file t) x.log r.held.spots s.file_a s.file_b in (
      record {
        rest = record {
          held = held_stays mid new x.log s r.held;
          items = r.items;
          ordered = r.ordered;
          unarmed = r.unarmed;
          short = (subst (IsWithin most_log_bytes) (sym same.0) r.short.0, subst (IsWithin most_log_bytes) (sym same.1) r.short.1);
        };
        fillable = all.0.fillable;
      },
      may_still mid new at valid stay xs apart.1 all.1,
    )

-- How far the logs of a plan are filled.
pub record AreFilledTo (plan done rest : List Refill) (old new : HomeView) : Type 0 where
  pub split : plan ≡ done ++ rest
  pub filled : AllByRecursion (IsRefilled old.file new.file) done
  pub may : AllByRecursion (MayRefill new) rest
  pub only : OnlyTheseChange done old.file new.file
  pub clean : StaysClean old new
  pub told : (s : Spot) → new.file s ≡ None → old.file s ≡ None
  pub directory : new.entered ≡ old.entered
  pub quiet : new.faults ≡ old.faults

pub filled_none : (plan rest : List Refill) (home : HomeView) → rest ≡ plan → AllByRecursion (MayRefill home) plan → AreFilledTo plan [] rest home home
filled_none plan rest home is may = record {
  split = sym is;
  filled = tt;
  may = subst (AllByRecursion (MayRefill home)) (sym is) may;
  only = λ s none. refl;
  clean = λ s clean. clean;
  told = λ s none. none;
  directory = refl;
  quiet = refl;
}

module _ (plan done rest more : List Refill) (at : Refill) (old mid new : HomeView) (is : rest ≡ at ∷ more) (apart : AreApart (map refill_node plan)) (may : AllByRecursion (MayRefill old) plan)
    (so_far : AreFilledTo plan done rest old mid) (others : OtherNodesStay (refill_node at) mid new) where
  pub split_here : plan ≡ done ++ at ∷ more
  split_here = so_far.split ∙ ap (λ (xs : List Refill). done ++ xs) is

  pub may_here : MayRefill mid at
  may_here = (subst (AllByRecursion (MayRefill mid)) is so_far.may).0

  apart_here : AllByRecursion (λ (x : Refill). refill_node x ≢ refill_node at) done × AllByRecursion (λ (x : Refill). refill_node x ≢ refill_node at) more
  apart_here = others_apart done more at plan split_here apart

  own_done : AllByRecursion IsOfNode done
  own_done = all_front IsOfNode done (at ∷ more) (subst (AllByRecursion IsOfNode) split_here (of_nodes old plan may))

  valid_here : IsValidNode (refill_node at)
  valid_here = may_here.rest.ordered.valid

  same_before : mid.file at.log.current.spot ≡ old.file at.log.current.spot
  same_before = so_far.only at.log.current.spot (not_of at.log.current.spot (refill_node at) valid_here (own_current at may_here.rest.held.spots) done own_done apart_here.0)

  done_still : AllByRecursion (IsRefilled old.file new.file) done
  done_still = filled_still old mid new (refill_node at) valid_here others.others done own_done apart_here.0 so_far.filled

  only_on : OnlyTheseChange (done ++ at ∷ []) old.file new.file
  only_on s none =
      let last = (all_back (λ (x : Refill). IsSpotOf (refill_node x) s → ⊥) done (at ∷ []) none).0 in
      others.others.files s (λ e. last (inl e)) (λ e. last (inr e)) ∙ so_far.only s (all_front (λ (x : Refill). IsSpotOf (refill_node x) s → ⊥) done (at ∷ []) none)

  -- the log is filled
  pub filled_to : IsFilledAs at.log at.records mid new (Ok tt) → AreFilledTo plan (done ++ at ∷ []) more old new
  filled_to f = record {
    split = split_here ∙ sym (append_assoc done (at ∷ []) more);
    filled = all_append (IsRefilled old.file new.file) done (at ∷ []) done_still ((so_first _ at.log may_here.rest.held.spots old.file mid.file new.file same_before f.0, f.1), tt);
    may = may_still mid new (refill_node at) valid_here others.others more apart_here.1 (subst (AllByRecursion (MayRefill mid)) is so_far.may).1;
    only = only_on;
    clean = λ s clean. f.2 s (so_far.clean s clean);
    told = λ s none. so_far.told s (others.told s none);
    directory = others.directory ∙ so_far.directory;
    quiet = f.3 ∙ so_far.quiet;
  }

  -- a fault came at it
  left_by : (fault : MigrateFault) → IsFilledAs at.log at.records mid new (Err fault) → LeavesRefill old.file new.file fault at
  left_by (Device spot) f = (so_first _ at.log may_here.rest.held.spots old.file mid.file new.file same_before f.0, f.1)
  left_by (Bad spot place) f = absurd f
  left_by (Full spot) f = (so_first _ at.log may_here.rest.held.spots old.file mid.file new.file same_before f.0, f.1, f.2)
  left_by Memory f = so_first _ at.log may_here.rest.held.spots old.file mid.file new.file same_before f.0

  pub cut_at : (fault : MigrateFault) → IsFilledAs at.log at.records mid new (Err fault) → AreCutAt plan old.file new.file fault
  cut_at fault f = record { before = done; at = at; behind = more; split = split_here; filled = done_still; left = left_by fault f; only = only_on }

  pub told_on : (s : Spot) → new.file s ≡ None → old.file s ≡ None
  told_on s none = so_far.told s (others.told s none)

  pub directory_on : new.entered ≡ old.entered
  directory_on = others.directory ∙ so_far.directory

  pub device_at : (fault : MigrateFault) (spot : Spot) → fault ≡ Device spot → IsFilledAs at.log at.records mid new (Err fault) → HasFailed spot old new
  device_at fault spot same f =
      fails_later old mid new spot (omega (arith, so_far.quiet)) (subst (λ (e : MigrateFault). IsFilledAs at.log at.records mid new (Err e)) same f).2

  pub quiet_at : (fault : MigrateFault) → ((spot : Spot) → fault ≡ Device spot → ⊥) → IsFilledAs at.log at.records mid new (Err fault) → new.faults ≡ old.faults
  quiet_at (Device spot) silent f = absurd (silent spot refl)
  quiet_at (Bad spot place) silent f = absurd f
  quiet_at (Full spot) silent f = f.3 ∙ so_far.quiet
  quiet_at Memory silent f = f.1 ∙ so_far.quiet

-- all are filled
pub filled_all : (plan done rest : List Refill) (old new : HomeView) (n : ℕ) → AreFilledTo plan done rest old new → 0 ≡ length rest → n ≡ length done → AreRefilledAs plan old new (Ok n)
filled_all plan done [] old new n f none many =
    let is : plan ≡ done = f.split ∙ append-nil done in (
      many ∙ ap length (sym is),
      subst (AllByRecursion (IsRefilled old.file new.file)) (sym is) f.filled,
      subst (λ (xs : List Refill). OnlyTheseChange xs old.file new.file) (sym is) f.only,
      f.clean,
    )
filled_all plan done (x ∷ rest) old new n f none many = absurd (omega (arith, none))

-- what `?` hands on
module _ {T : Type 0} (fault : MigrateFault) (answer : Result T MigrateFault) (same : IsErrAnd answer (λ e. e ≡ fault)) where
  fault_is : (answer : Result T MigrateFault) → IsErrAnd answer (λ e. e ≡ fault) → answer ≡ Err fault
  fault_is (Ok x) same = absurd same
  fault_is (Err e) same = ap Err same

  pub is_fault : answer ≡ Err fault
  is_fault = fault_is answer same

  pub fault_told : (spot : Spot) → IsErrOf answer (Device spot) → fault ≡ Device spot
  fault_told spot is = let e : Err fault ≡ Err (Device spot) = sym is_fault ∙ is in cc

pub counted_on : (count : ℕ) (done : List Refill) (at : Refill) → count ≡ length done → count + 1 ≡ length (done ++ at ∷ [])
counted_on count done at many = let e : length (done ++ at ∷ []) ≡ length done + 1 = length-append done (at ∷ []) in omega (arith, e, many)
