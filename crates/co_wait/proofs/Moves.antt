-- Steps of a search through chains.
use Rattle.std.proofs.Common.{◌≡◌, ◌≢◌, ℕ, ◌+◌, ◌-◌, ◌*◌, ◌^◌, ◌<◌, ◌≤◌, max, ◌⊎◌, inl, inr, true, List, [], ◌∷◌, ◌++◌, length, get_or, None, Some, Result, Ok, Err, refl, sym, ap, ◌∙◌, subst, length-append, arith}
use Rattle.std.specs.Prelude.{All, AllPairs, Any, Contains, sum_by, IfOk, OnOk}
use Rattle.std.specs.declared.alloc.AllocError.{AllocError}
use Rattle.std.specs.FinMap.{len}
use Rattle.std.proofs.lemmas.Bool.{cases_lt}
use Rattle.std.proofs.lemmas.List.Elements.{All-nil, All-weaker, All-push}
use Rattle.std.proofs.lemmas.List.Quantifiers.{all_pairs_push, Any-push}
use Rattle.std.proofs.lemmas.List.Sums.{sum_by-append}
use Rattle.co_state.specs.Table.{Table, look, put, holds}
use Rattle.co_law_base.proofs.Lookups.{put_here, put_there, put_cases}
use Rattle.co_wait.specs.declared.search.Pause.{Pause}
use Rattle.co_wait.specs.declared.search.Progress.{Progress}
use Rattle.co_wait.specs.declared.search.Progress.TheVariants.{Open, Ended}
use Rattle.co_wait.specs.declared.search.Visit.{Visit}
use Rattle.co_wait.specs.declared.wait.Wait.{Wait}
use Rattle.co_wait.specs.Chains.{IsWaitBefore, IsInWaits, IsChain, IsRank}
use Rattle.co_wait.specs.Searching.{IsAtPlace, BeginsAt, HasNoneAt, IsKnownToEnd, IsSoFar, KeepsEnded, IsGoneThrough, IsPausedAt, LeadFrom, ArePausedApart, RanksAreCounted, IsSearching, HasComeAgain, HasGoneThrough, IsNextFirst, work_from, work_left}
use Rattle.co_wait.proofs.Lists.{front_all, last_all, front_pairs, last_pairs, any_cases, any_front}
use Rattle.co_wait.proofs.Places.{same_at, one_of, none_behind}
use Rattle.co_wait.proofs.Known.{few, one_more, no_more, keeps, open_not_ended, none_not_ended, still, known_before, known_or_new}

ended_same : {a b : ℕ} → Ended a ≡ Ended b → a ≡ b
ended_same e = cc

some_same : {A : Type 0} {a b : A} → Some a ≡ Some b → a ≡ b
some_same e = cc

-- what is gone through stays so
pub gone_still : (waits : List Wait) (old new : Table Progress) (t place longest : ℕ) → KeepsEnded old new → IsGoneThrough waits old t place longest → IsGoneThrough waits new t place longest
gone_still waits old new t place longest kept gone = record {
  within = gone.within;
  passed = λ i w lt at own. let p = gone.passed i w lt at own in (p.0, kept w.by p.0 p.1, p.2);
  ahead = gone.ahead;
  reached = gone.reached;
}

pub paused_still : (waits : List Wait) (old new : Table Progress) (p : Pause) → KeepsEnded old new → look new p.wait.held ≡ look old p.wait.held → IsPausedAt waits old p → IsPausedAt waits new p
paused_still waits old new p kept same paused = record {
  gone = gone_still waits old new p.wait.held p.place p.longest kept paused.gone;
  here = paused.here;
  is_open = same ∙ paused.is_open;
}

both_all : {X : Type 0} {P Q R : X → Type 0} (xs : List X) → ((x : X) → P x → Q x → R x) → All P xs → All Q xs → All R xs
both_all xs f a b k d lt = f (get_or xs k d) (a k d lt) (b k d lt)

-- all that were paused stay so where one that is none of theirs is laid in
pub all_still : (waits : List Wait) (known : Table Progress) (t : ℕ) (x : Progress) (path : List Pause) → KeepsEnded known (put known t x) → All (λ p. p.wait.held ≢ t) path →
    All (IsPausedAt waits known) path → All (IsPausedAt waits (put known t x)) path
all_still waits known t x path kept apart all =
    both_all {P = λ p. p.wait.held ≢ t} {Q = IsPausedAt waits known} {R = IsPausedAt waits (put known t x)} path (λ p n a. paused_still waits known (put known t x) p kept (put_there known t x p.wait.held (λ e. n (sym e))) a) apart all

-- ---- a transaction whose waits were all taken

module _ (waits : List Wait) (ordered : AllPairs IsWaitBefore waits) (known : Table Progress) (so_far : IsSoFar waits known) (t place longest : ℕ)
    (gone : IsGoneThrough waits known t place longest) (is_open : look known t ≡ Some Open) (none : HasNoneAt waits t place) where
  after : Table Progress
  after = put known t (Ended longest)

  pub leave_keeps : KeepsEnded known (put known t (Ended longest))
  leave_keeps = keeps known t (Ended longest) (open_not_ended known t is_open)

  passed : (w : Wait) → Contains waits w → w.held ≡ t → (rank : ℕ) × (look known w.by ≡ Some (Ended rank)) × (rank < longest)
  passed w c own = gone.passed c.0 w (none_behind waits ordered t place none gone.ahead c.0 w (c.1, c.2) own) (c.1, c.2) own

  no_longer : (chain : List Wait) → IsChain waits t chain → length chain ≤ longest
  no_longer [] h = omega arith
  no_longer (w ∷ chain) h =
      let p = passed w h.0 h.1 in
      let below : length chain ≤ p.0 = (so_far.ranked w.by p.0 p.1).longest chain h.2 in
      let less : p.0 < longest = p.2 in
      omega arith

  pub left_ranked : IsRank waits t longest
  left_ranked = record { reached = gone.reached; longest = no_longer }

  pub left_so_far : IsSoFar waits (put known t (Ended longest))
  left_so_far = record {
    ranked = λ u rank e. rank_by u rank (put_cases known t (Ended longest) u (Ended rank) e);
    onward = λ u rank e w c own. onward_by u rank w c own (put_cases known t (Ended longest) u (Ended rank) e);
    among = λ u h. so_far.among u (known_before known t (Ended longest) Open u is_open h);
    numbers = λ u h. so_far.numbers u (known_before known t (Ended longest) Open u is_open h);
  }
    where
      rank_by : (u rank : ℕ) → ((t ≡ u) × (Ended longest ≡ Ended rank)) ⊎ ((t ≢ u) × (look known u ≡ Some (Ended rank))) → IsRank waits u rank
      rank_by u rank (inl same) = subst (λ v. IsRank waits v rank) same.0 (subst (λ r. IsRank waits t r) (ended_same same.1) left_ranked)
      rank_by u rank (inr other) = so_far.ranked u rank other.1

      onward_by : (u rank : ℕ) (w : Wait) → Contains waits w → w.held ≡ u → ((t ≡ u) × (Ended longest ≡ Ended rank)) ⊎ ((t ≢ u) × (look known u ≡ Some (Ended rank))) →
          IsKnownToEnd (put known t (Ended longest)) w.by
      onward_by u rank w c own (inl same) = let p = passed w c (own ∙ sym same.0) in (p.0, leave_keeps w.by p.0 p.1)
      onward_by u rank w c own (inr other) = still known (put known t (Ended longest)) w.by leave_keeps (so_far.onward u rank other.1 w c own)

-- ---- the waits that were followed

pub lead_push : (path : List Pause) (first u : ℕ) (p : Pause) → LeadFrom first path u → p.wait.held ≡ u → LeadFrom first (path ++ p ∷ []) p.wait.by
lead_push [] first u p lead own = (own ∙ sym lead, refl)
lead_push (q ∷ path) first u p lead own = (lead.0, lead_push path q.wait.by u p lead.1 own)

lead_pop : (path : List Pause) (first u : ℕ) (p : Pause) → LeadFrom first (path ++ p ∷ []) u → LeadFrom first path p.wait.held × (p.wait.by ≡ u)
lead_pop [] first u p lead = (sym lead.0, lead.1)
lead_pop (q ∷ path) first u p lead = let rest = lead_pop path q.wait.by u p lead.1 in ((lead.0, rest.0), rest.1)

weight : List Wait → Pause → ℕ
weight waits p = work_from waits p.place

-- ---- back to the wait that was followed last

module _ (waits : List Wait) (ordered : AllPairs IsWaitBefore waits) (first : ℕ) (known : Table Progress) (front : List Pause) (p : Pause) (visit : Visit)
    (s : IsSearching waits first known (front ++ p ∷ []) visit) (none : HasNoneAt waits visit.txn visit.place) where
  now : Table Progress
  now = put known visit.txn (Ended visit.longest)

  kept : KeepsEnded known (put known visit.txn (Ended visit.longest))
  kept = leave_keeps waits ordered known s.so_far visit.txn visit.place visit.longest s.gone s.is_open none

  apart_front : All (λ q. q.wait.held ≢ visit.txn) front
  apart_front = front_all front p (λ q. q.wait.held ≢ visit.txn) s.new

  apart_last : p.wait.held ≢ visit.txn
  apart_last = last_all front p (λ q. q.wait.held ≢ visit.txn) s.new

  paused_last : IsPausedAt waits (put known visit.txn (Ended visit.longest)) p
  paused_last = paused_still waits known (put known visit.txn (Ended visit.longest)) p kept
      (put_there known visit.txn (Ended visit.longest) p.wait.held (λ e. apart_last (sym e))) (last_all front p (IsPausedAt waits known) s.paused)

  same_size : len (put known visit.txn (Ended visit.longest)) ≡ len known
  same_size = no_more known visit.txn (Ended visit.longest) Open s.is_open

  opened_back : (t : ℕ) → look (put known visit.txn (Ended visit.longest)) t ≡ Some Open → (t ≡ p.wait.held) ⊎ Any (λ q. q.wait.held ≡ t) front
  opened_back t e = by (put_cases known visit.txn (Ended visit.longest) t Open e)
    where
      of_path : Any (λ q. q.wait.held ≡ t) front ⊎ (p.wait.held ≡ t) → (t ≡ p.wait.held) ⊎ Any (λ q. q.wait.held ≡ t) front
      of_path (inl any) = inr any
      of_path (inr same) = inl (sym same)

      of_open : (visit.txn ≢ t) → (t ≡ visit.txn) ⊎ Any (λ q. q.wait.held ≡ t) (front ++ p ∷ []) → (t ≡ p.wait.held) ⊎ Any (λ q. q.wait.held ≡ t) front
      of_open other (inl same) = absurd (other (sym same))
      of_open other (inr any) = of_path (any_cases front p (λ q. q.wait.held ≡ t) any)

      by : ((visit.txn ≡ t) × (Ended visit.longest ≡ Open)) ⊎ ((visit.txn ≢ t) × (look known t ≡ Some Open)) → (t ≡ p.wait.held) ⊎ Any (λ q. q.wait.held ≡ t) front
      by (inl same) = absurd (let z : Ended visit.longest ≡ Open = same.1 in cc)
      by (inr other) = of_open other.0 (s.opened t other.1)

  below_more : (t rank : ℕ) → look (put known visit.txn (Ended visit.longest)) t ≡ Some (Ended rank) → rank < s.counted.count + 1
  below_more t rank e = by (put_cases known visit.txn (Ended visit.longest) t (Ended rank) e)
    where
      by : ((visit.txn ≡ t) × (Ended visit.longest ≡ Ended rank)) ⊎ ((visit.txn ≢ t) × (look known t ≡ Some (Ended rank))) → rank < s.counted.count + 1
      by (inl same) = let e : visit.longest ≡ rank = ended_same same.1 in let le : visit.longest ≤ s.counted.count = s.counted.here in omega arith
      by (inr other) = let lt : rank < s.counted.count = s.counted.ranks t rank other.1 in omega arith

  counted_back : RanksAreCounted (put known visit.txn (Ended visit.longest)) front p.longest
  counted_back = record {
    count = s.counted.count + 1;
    fits = let fits : s.counted.count + length (front ++ p ∷ []) < len known = s.counted.fits in omega (arith, fits, length-append front (p ∷ []), same_size);
    ranks = below_more;
    here = let le : p.longest ≤ s.counted.count = last_all front p (λ q. q.longest ≤ s.counted.count) s.counted.paused in omega arith;
    paused = All-weaker (λ q. q.longest ≤ s.counted.count) (λ q. q.longest ≤ s.counted.count + 1) (λ q le. omega arith) front (front_all front p (λ q. q.longest ≤ s.counted.count) s.counted.paused);
  }

  pub back_searching : IsSearching waits first (put known visit.txn (Ended visit.longest)) front (record { txn = p.wait.held; place = p.place; longest = p.longest })
  back_searching = record {
    so_far = left_so_far waits ordered known s.so_far visit.txn visit.place visit.longest s.gone s.is_open none;
    paused = all_still waits known visit.txn (Ended visit.longest) front kept apart_front (front_all front p (IsPausedAt waits known) s.paused);
    lead = (lead_pop front first visit.txn p s.lead).0;
    apart = front_pairs front p (λ q r. q.wait.held ≢ r.wait.held) s.apart;
    new = last_pairs front p (λ q r. q.wait.held ≢ r.wait.held) s.apart;
    gone = paused_last.gone;
    is_open = paused_last.is_open;
    opened = opened_back;
    counted = counted_back;
  }

  pub back_less : work_left waits (put known visit.txn (Ended visit.longest)) front p.place < work_left waits known (front ++ p ∷ []) visit.place
  back_less = omega (arith, ap (λ n. (2 ^ 32 - n) * (length waits + 2)) same_size, sum_by-append (λ q. work_from waits q.place) front (p ∷ []))

-- ---- all chains of the first one end

module _ (waits : List Wait) (ordered : AllPairs IsWaitBefore waits) (first : ℕ) (known : Table Progress) (visit : Visit)
    (s : IsSearching waits first known [] visit) (none : HasNoneAt waits visit.txn visit.place) where
  pub done : HasGoneThrough waits first (put known visit.txn (Ended visit.longest))
  done = record {
    rest = record {
      so_far = left_so_far waits ordered known s.so_far visit.txn visit.place visit.longest s.gone s.is_open none;
      none = λ t e. none_open t (put_cases known visit.txn (Ended visit.longest) t Open e);
      counted = λ t rank e. counted_by t rank (put_cases known visit.txn (Ended visit.longest) t (Ended rank) e);
    };
    ended = (visit.longest, subst (λ t. look (put known visit.txn (Ended visit.longest)) t ≡ Some (Ended visit.longest)) (sym s.lead) (put_here known visit.txn (Ended visit.longest)));
  }
    where
      of_open : (t : ℕ) → (visit.txn ≢ t) → (t ≡ visit.txn) ⊎ Any (λ (q : Pause). q.wait.held ≡ t) [] → ⊥
      of_open t other (inl same) = other (sym same)
      of_open t other (inr any) = let lt : any.0 < 0 = any.2 in absurd (omega arith)

      none_open : (t : ℕ) → ((visit.txn ≡ t) × (Ended visit.longest ≡ Open)) ⊎ ((visit.txn ≢ t) × (look known t ≡ Some Open)) → ⊥
      none_open t (inl same) = let z : Ended visit.longest ≡ Open = same.1 in cc
      none_open t (inr other) = of_open t other.0 (s.opened t other.1)

      size : len (put known visit.txn (Ended visit.longest)) ≡ len known
      size = no_more known visit.txn (Ended visit.longest) Open s.is_open

      counted_by : (t rank : ℕ) → ((visit.txn ≡ t) × (Ended visit.longest ≡ Ended rank)) ⊎ ((visit.txn ≢ t) × (look known t ≡ Some (Ended rank))) → rank < len (put known visit.txn (Ended visit.longest))
      counted_by t rank (inl same) =
          let e : visit.longest ≡ rank = ended_same same.1 in let le : visit.longest ≤ s.counted.count = s.counted.here in let fits : s.counted.count + 0 < len known = s.counted.fits in omega (arith, size)
      counted_by t rank (inr other) =
          let lt : rank < s.counted.count = s.counted.ranks t rank other.1 in let fits : s.counted.count + 0 < len known = s.counted.fits in omega (arith, size)

pub leave_back : (waits : List Wait) (first : ℕ) (old new : Table Progress) (path front : List Pause) (p : Pause) (visit : Visit) → AllPairs IsWaitBefore waits → HasNoneAt waits visit.txn visit.place →
    IsSearching waits first old path visit → path ≡ front ++ p ∷ [] → new ≡ put old visit.txn (Ended visit.longest) →
    IsSearching waits first new front (record { txn = p.wait.held; place = p.place; longest = p.longest }) × (work_left waits new front p.place < work_left waits old path visit.place)
leave_back waits first old new path front p visit ordered none s cut is =
    let apart = subst (λ list. IsSearching waits first old list visit) cut s in
    let Made : List Pause → Table Progress → Type 0 = λ list known.
    IsSearching waits first known front (record { txn = p.wait.held; place = p.place; longest = p.longest }) × (work_left waits known front p.place < work_left waits old list visit.place) in
    subst (λ list. Made list new) (sym cut) (subst (Made (front ++ p ∷ [])) (sym is) (back_searching waits ordered first old front p visit apart none, back_less waits ordered first old front p visit apart none))

pub leave_done : (waits : List Wait) (first : ℕ) (old new : Table Progress) (path : List Pause) (visit : Visit) → AllPairs IsWaitBefore waits → HasNoneAt waits visit.txn visit.place →
    IsSearching waits first old path visit → path ≡ [] → new ≡ put old visit.txn (Ended visit.longest) → HasGoneThrough waits first new
leave_done waits first old new path visit ordered none s nothing is =
    subst (HasGoneThrough waits first) (sym is) (done waits ordered first old visit (subst (λ list. IsSearching waits first old list visit) nothing s) none)

-- ---- a transaction is opened

pub opened_so_far : (waits : List Wait) (known : Table Progress) (t : ℕ) → IsSoFar waits known → look known t ≡ None → IsInWaits waits t → t < 2 ^ 32 → IsSoFar waits (put known t Open)
opened_so_far waits known t so_far unknown one small = record {
  ranked = λ u rank e. ranked_by u rank (put_cases known t Open u (Ended rank) e);
  onward = λ u rank e v c is. onward_by u rank v c is (put_cases known t Open u (Ended rank) e);
  among = λ u h. among_by u (known_or_new known t Open u h);
  numbers = λ u h. numbers_by u (known_or_new known t Open u h);
}
  where
    ranked_by : (u rank : ℕ) → ((t ≡ u) × (Open ≡ Ended rank)) ⊎ ((t ≢ u) × (look known u ≡ Some (Ended rank))) → IsRank waits u rank
    ranked_by u rank (inl same) = absurd (let z : Open ≡ Ended rank = same.1 in cc)
    ranked_by u rank (inr other) = so_far.ranked u rank other.1

    onward_by : (u rank : ℕ) (v : Wait) → Contains waits v → v.held ≡ u → ((t ≡ u) × (Open ≡ Ended rank)) ⊎ ((t ≢ u) × (look known u ≡ Some (Ended rank))) → IsKnownToEnd (put known t Open) v.by
    onward_by u rank v c is (inl same) = absurd (let z : Open ≡ Ended rank = same.1 in cc)
    onward_by u rank v c is (inr other) = still known (put known t Open) v.by (keeps known t Open (none_not_ended known t unknown)) (so_far.onward u rank other.1 v c is)

    among_by : (u : ℕ) → (t ≡ u) ⊎ (holds known u ≡ true) → IsInWaits waits u
    among_by u (inl same) = subst (IsInWaits waits) same one
    among_by u (inr h) = so_far.among u h

    numbers_by : (u : ℕ) → (t ≡ u) ⊎ (holds known u ≡ true) → u < 2 ^ 32
    numbers_by u (inl same) = subst (λ n. n < 2 ^ 32) same small
    numbers_by u (inr h) = so_far.numbers u h

-- the search begins with a transaction that waits
pub begin_with : (waits : List Wait) (known new : Table Progress) (first : ℕ) (path : List Pause) (visit : Visit) → IsNextFirst waits known first → first < 2 ^ 32 → new ≡ put known first Open → path ≡ [] →
    (visit.txn ≡ first) × (visit.longest ≡ 0) × BeginsAt waits first visit.place → IsSearching waits first new path visit
begin_with waits known new first path visit next small is nothing made =
    subst (λ list. IsSearching waits first new list visit) (sym nothing) (subst (λ table. IsSearching waits first table [] visit) (sym is) (record {
      so_far = opened_so_far waits known first next.rest.so_far next.unknown (next.one.0, next.one.1, next.one.2, next.one.3, inl next.one.4) small;
      paused = All-nil (IsPausedAt waits (put known first Open));
      lead = sym made.0;
      apart = λ i j d lt in_range. absurd (let past : j < 0 = in_range in omega arith);
      new = All-nil (λ (p : Pause). p.wait.held ≢ visit.txn);
      gone = record {
        within = made.2.within;
        passed = λ i v lt at is. let less : v.held < first = made.2.behind i v lt at in absurd (omega (arith, is, made.0));
        ahead = λ i v le at. let up : first ≤ v.held = made.2.ahead i v le at in omega (arith, made.0);
        reached = ([], tt, sym made.1);
      };
      is_open = subst (λ t. look (put known first Open) t ≡ Some Open) (sym made.0) (put_here known first Open);
      opened = λ t e. opened_by t (put_cases known first Open t Open e);
      counted = record {
        count = len known;
        fits = let more : len (put known first Open) ≡ len known + 1 = one_more known first Open next.unknown in omega arith;
        ranks = λ t rank e. ranks_by t rank (put_cases known first Open t (Ended rank) e);
        here = omega (arith, made.1);
        paused = All-nil (λ (p : Pause). p.longest ≤ len known);
      };
    }))
  where
    opened_by : (t : ℕ) → ((first ≡ t) × (Open ≡ Open)) ⊎ ((first ≢ t) × (look known t ≡ Some Open)) → (t ≡ visit.txn) ⊎ Any (λ (p : Pause). p.wait.held ≡ t) []
    opened_by t (inl same) = inl (sym same.0 ∙ sym made.0)
    opened_by t (inr other) = absurd (next.rest.none t other.1)

    ranks_by : (t rank : ℕ) → ((first ≡ t) × (Open ≡ Ended rank)) ⊎ ((first ≢ t) × (look known t ≡ Some (Ended rank))) → rank < len known
    ranks_by t rank (inl same) = absurd (let z : Open ≡ Ended rank = same.1 in cc)
    ranks_by t rank (inr other) = next.rest.counted t rank other.1

-- ---- a wait is followed

module _ (waits : List Wait) (first : ℕ) (known : Table Progress) (path : List Pause) (visit next : Visit) (w : Wait) (s : IsSearching waits first known path visit)
    (here : IsAtPlace waits visit.place w) (own : w.held ≡ visit.txn) (unknown : look known w.by ≡ None) (small : w.by < 2 ^ 32)
    (onward : next.txn ≡ w.by) (nothing : next.longest ≡ 0) (begins : BeginsAt waits w.by next.place) where
  after_open : Table Progress
  after_open = put known w.by Open

  pub follow_keeps : KeepsEnded known (put known w.by Open)
  follow_keeps = keeps known w.by Open (none_not_ended known w.by unknown)

  others : (t : ℕ) → look known t ≡ Some Open → w.by ≢ t
  others t e same = let z : None ≡ Some Open = sym unknown ∙ ap (look known) same ∙ e in cc

  paused_here : Pause
  paused_here = record { wait = w; place = visit.place; longest = visit.longest }

  is_paused : IsPausedAt waits (put known w.by Open) (record { wait = w; place = visit.place; longest = visit.longest })
  is_paused = record {
    gone = subst (λ t. IsGoneThrough waits (put known w.by Open) t visit.place visit.longest) (sym own) (gone_still waits known (put known w.by Open) visit.txn visit.place visit.longest follow_keeps s.gone);
    here = here;
    is_open = subst (λ t. look (put known w.by Open) t ≡ Some Open) (sym own) (put_there known w.by Open visit.txn (others visit.txn s.is_open) ∙ s.is_open);
  }

  open_not_new : All (λ p. p.wait.held ≢ w.by) path
  open_not_new = All-weaker (IsPausedAt waits known) (λ p. p.wait.held ≢ w.by) (λ p paused same. others p.wait.held paused.is_open (sym same)) path s.paused

  so_far_open : IsSoFar waits (put known w.by Open)
  so_far_open = opened_so_far waits known w.by s.so_far unknown (visit.place, w, here.0, here.1, inr refl) small

  more : len (put known w.by Open) ≡ len known + 1
  more = one_more known w.by Open unknown

  counted_on : RanksAreCounted (put known w.by Open) (path ++ record { wait = w; place = visit.place; longest = visit.longest } ∷ []) next.longest
  counted_on = record {
    count = s.counted.count;
    fits = omega (arith, s.counted.fits, length-append path (record { wait = w; place = visit.place; longest = visit.longest } ∷ []), more);
    ranks = λ t rank e. ranks_by t rank (put_cases known w.by Open t (Ended rank) e);
    here = omega (arith, nothing);
    paused = All-push (λ p. p.longest ≤ s.counted.count) path (record { wait = w; place = visit.place; longest = visit.longest }) s.counted.paused s.counted.here;
  }
    where
      ranks_by : (t rank : ℕ) → ((w.by ≡ t) × (Open ≡ Ended rank)) ⊎ ((w.by ≢ t) × (look known t ≡ Some (Ended rank))) → rank < s.counted.count
      ranks_by t rank (inl same) = absurd (let z : Open ≡ Ended rank = same.1 in cc)
      ranks_by t rank (inr other) = s.counted.ranks t rank other.1

  opened_on : (t : ℕ) → look (put known w.by Open) t ≡ Some Open → (t ≡ next.txn) ⊎ Any (λ p. p.wait.held ≡ t) (path ++ record { wait = w; place = visit.place; longest = visit.longest } ∷ [])
  opened_on t e = by (put_cases known w.by Open t Open e)
    where
      of_open : (t ≡ visit.txn) ⊎ Any (λ (p : Pause). p.wait.held ≡ t) path → (t ≡ next.txn) ⊎ Any (λ p. p.wait.held ≡ t) (path ++ record { wait = w; place = visit.place; longest = visit.longest } ∷ [])
      of_open (inl same) = inr (Any-push (λ p. p.wait.held ≡ t) path (record { wait = w; place = visit.place; longest = visit.longest }) (own ∙ sym same))
      of_open (inr any) = inr (any_front path (record { wait = w; place = visit.place; longest = visit.longest }) (λ p. p.wait.held ≡ t) any)

      by : ((w.by ≡ t) × (Open ≡ Open)) ⊎ ((w.by ≢ t) × (look known t ≡ Some Open)) → (t ≡ next.txn) ⊎ Any (λ p. p.wait.held ≡ t) (path ++ record { wait = w; place = visit.place; longest = visit.longest } ∷ [])
      by (inl same) = inl (sym same.0 ∙ sym onward)
      by (inr other) = of_open (s.opened t other.1)

  pub path_apart : ArePausedApart (path ++ record { wait = w; place = visit.place; longest = visit.longest } ∷ [])
  path_apart = all_pairs_push (λ p q. p.wait.held ≢ q.wait.held) path (record { wait = w; place = visit.place; longest = visit.longest }) s.apart
      (λ k d lt same. s.new k d lt (same ∙ own))

  pub follow_searching : IsSearching waits first (put known w.by Open) (path ++ record { wait = w; place = visit.place; longest = visit.longest } ∷ []) next
  follow_searching = record {
    so_far = so_far_open;
    paused = All-push (IsPausedAt waits (put known w.by Open)) path (record { wait = w; place = visit.place; longest = visit.longest })
        (all_still waits known w.by Open path follow_keeps open_not_new s.paused) is_paused;
    lead = subst (LeadFrom first (path ++ record { wait = w; place = visit.place; longest = visit.longest } ∷ [])) (sym onward) (lead_push path first visit.txn (record { wait = w; place = visit.place; longest = visit.longest }) s.lead own);
    apart = path_apart;
    new = subst (λ t. All (λ p. p.wait.held ≢ t) (path ++ record { wait = w; place = visit.place; longest = visit.longest } ∷ [])) (sym onward)
        (All-push (λ p. p.wait.held ≢ w.by) path (record { wait = w; place = visit.place; longest = visit.longest }) open_not_new (λ same. others visit.txn s.is_open (sym same ∙ own)));
    gone = record {
      within = begins.within;
      passed = λ i v lt at is. let less : v.held < w.by = begins.behind i v lt at in absurd (omega (arith, is, onward));
      ahead = λ i v le at. let up : w.by ≤ v.held = begins.ahead i v le at in omega (arith, onward);
      reached = ([], tt, sym nothing);
    };
    is_open = subst (λ t. look (put known w.by Open) t ≡ Some Open) (sym onward) (put_here known w.by Open);
    opened = opened_on;
    counted = counted_on;
  }

  pub follow_less : work_left waits (put known w.by Open) (path ++ record { wait = w; place = visit.place; longest = visit.longest } ∷ []) next.place < work_left waits known path visit.place
  follow_less =
      let room : len (put known w.by Open) ≤ 2 ^ 32 = few (put known w.by Open) (2 ^ 32) so_far_open.numbers in
      less (length waits) (len known) (len (put known w.by Open)) (sum_by (λ p. work_from waits p.place) path) (sum_by (λ p. work_from waits p.place) (path ++ record { wait = w; place = visit.place; longest = visit.longest } ∷ [])) visit.place next.place
      more room (sum_by-append (λ p. work_from waits p.place) path (record { wait = w; place = visit.place; longest = visit.longest } ∷ []))
    where
      one_less : (a b m : ℕ) → b ≡ a + 1 → b ≤ 2 ^ 32 → (2 ^ 32 - a) * m ≡ (2 ^ 32 - b) * m + m
      one_less a b m is room = grind arith

      less : (n a b front whole at from : ℕ) → b ≡ a + 1 → b ≤ 2 ^ 32 → whole ≡ front + (0 + (1 + (n - at))) →
          (2 ^ 32 - b) * (n + 2) + whole + (1 + (n - from)) < (2 ^ 32 - a) * (n + 2) + front + (1 + (n - at))
      less n a b front whole at from is room parts = omega (arith, one_less a b (n + 2) is room)

pub follow_on : (waits : List Wait) (first : ℕ) (old new : Table Progress) (path longer : List Pause) (visit next : Visit) (w : Wait) → IsAtPlace waits visit.place w → w.held ≡ visit.txn → look old w.by ≡ None → w.by < 2 ^ 32 →
    next.txn ≡ w.by → next.longest ≡ 0 → BeginsAt waits w.by next.place → longer ≡ path ++ record { wait = w; place = visit.place; longest = visit.longest } ∷ [] → new ≡ put old w.by Open →
    IsSearching waits first old path visit → IsSearching waits first new longer next × (work_left waits new longer next.place < work_left waits old path visit.place)
follow_on waits first old new path longer visit next w here own unknown small onward nothing begins pushed is s =
    let Made : List Pause → Table Progress → Type 0 = λ list known. IsSearching waits first known list next × (work_left waits known list next.place < work_left waits old path visit.place) in
    subst (λ list. Made list new) (sym pushed) (subst (Made (path ++ record { wait = w; place = visit.place; longest = visit.longest } ∷ [])) (sym is)
    (follow_searching waits first old path visit next w s here own unknown small onward nothing begins, follow_less waits first old path visit next w s here own unknown small onward nothing begins))

pub follow_result : (waits : List Wait) (first : ℕ) (old new : Table Progress) (path longer : List Pause) (visit : Visit) (w : Wait) (result : Result Visit AllocError) → IsAtPlace waits visit.place w → w.held ≡ visit.txn → look old w.by ≡ None → w.by < 2 ^ 32 →
    longer ≡ path ++ record { wait = w; place = visit.place; longest = visit.longest } ∷ [] → OnOk result (new ≡ put old w.by Open) → IfOk result (λ next. (next.txn ≡ w.by) × (next.longest ≡ 0) × BeginsAt waits w.by next.place) →
    IsSearching waits first old path visit → IfOk result (λ next. IsSearching waits first new longer next × (work_left waits new longer next.place < work_left waits old path visit.place))
follow_result waits first old new path longer visit w (Ok next) here own unknown small pushed is begins s = follow_on waits first old new path longer visit next w here own unknown small begins.0 begins.1 begins.2 pushed is s
follow_result waits first old new path longer visit w (Err e) here own unknown small pushed is begins s = tt

pub follow_kept : (old new : Table Progress) (t : ℕ) (result : Result Visit AllocError) → look old t ≡ None → OnOk result (new ≡ put old t Open) → OnOk result (KeepsEnded old new)
follow_kept old new t (Ok next) unknown is = subst (KeepsEnded old) (sym is) (keeps old t Open (none_not_ended old t unknown))
follow_kept old new t (Err e) unknown is = tt

-- ---- a wait leads to an ended transaction

-- the longest chain is now the one over that wait, or it stays
longest_over : (waits : List Wait) (t longest rank : ℕ) (w : Wait) → Contains waits w → w.held ≡ t → IsRank waits w.by rank → (chain : List Wait) × IsChain waits t chain × (length chain ≡ longest) →
    (chain : List Wait) × IsChain waits t chain × (length chain ≡ max longest (rank + 1))
longest_over waits t longest rank w c own is reached = by (cases_lt longest (rank + 1))
  where
    by : (longest < rank + 1) ⊎ (rank + 1 ≤ longest) → (chain : List Wait) × IsChain waits t chain × (length chain ≡ max longest (rank + 1))
    by (inl less) = let e : length is.reached.0 ≡ rank = is.reached.2 in (w ∷ is.reached.0, (c, own, is.reached.1), omega arith)
    by (inr more) = let e : length reached.0 ≡ longest = reached.2 in (reached.0, reached.1, omega arith)

pub pass_gone : (waits : List Wait) (known : Table Progress) (t place longest rank : ℕ) (w : Wait) → IsSoFar waits known → IsGoneThrough waits known t place longest → IsAtPlace waits place w → w.held ≡ t →
    look known w.by ≡ Some (Ended rank) → IsGoneThrough waits known t (place + 1) (max longest (rank + 1))
pass_gone waits known t place longest rank w so_far gone here own ended = record {
  within = let lt : place < length waits = here.0 in omega arith;
  passed = λ i v lt at is. passed_by i v at is (cases_lt i place) lt;
  ahead = λ i v le at. gone.ahead i v (omega arith) at;
  reached = longest_over waits t longest rank w (one_of waits place w here) own (so_far.ranked w.by rank ended) gone.reached;
}
  where
    passed_by : (i : ℕ) (v : Wait) → IsAtPlace waits i v → v.held ≡ t → (i < place) ⊎ (place ≤ i) → i < place + 1 → (r : ℕ) × (look known v.by ≡ Some (Ended r)) × (r < max longest (rank + 1))
    passed_by i v at is (inl before) lt = let p = gone.passed i v before at is in let less : p.0 < longest = p.2 in (p.0, p.1, omega arith)
    passed_by i v at is (inr from) lt =
        let e : i ≡ place = omega arith in
        let same : w ≡ v = same_at waits place w v here (subst (λ k. IsAtPlace waits k v) e at) in
        (rank, subst (λ (x : Wait). look known x.by ≡ Some (Ended rank)) same ended, omega arith)

pub pass_on : (waits : List Wait) (first : ℕ) (known : Table Progress) (path : List Pause) (visit next : Visit) (w : Wait) (rank : ℕ) → IsSearching waits first known path visit → IsAtPlace waits visit.place w → w.held ≡ visit.txn →
    look known w.by ≡ Some (Ended rank) → next ≡ record { txn = visit.txn; place = visit.place + 1; longest = max visit.longest (rank + 1) } →
    IsSearching waits first known path next × (work_left waits known path next.place < work_left waits known path visit.place)
pass_on waits first known path visit next w rank s here own ended is =
    subst (λ next. IsSearching waits first known path next × (work_left waits known path next.place < work_left waits known path visit.place)) (sym is) (
      record {
        so_far = s.so_far;
        paused = s.paused;
        lead = s.lead;
        apart = s.apart;
        new = s.new;
        gone = pass_gone waits known visit.txn visit.place visit.longest rank w s.so_far s.gone here own ended;
        is_open = s.is_open;
        opened = s.opened;
        counted = record {
          count = s.counted.count;
          fits = s.counted.fits;
          ranks = s.counted.ranks;
          here = let lt : rank < s.counted.count = s.counted.ranks w.by rank ended in let le : visit.longest ≤ s.counted.count = s.counted.here in omega arith;
          paused = s.counted.paused;
        };
      },
      let lt : visit.place < length waits = here.0 in less (length waits) visit.place ((2 ^ 32 - len known) * (length waits + 2) + sum_by (λ p. work_from waits p.place) path) lt,
    )
  where
    less : (n place rest : ℕ) → place < n → rest + (1 + (n - (place + 1))) < rest + (1 + (n - place))
    less n place rest lt = omega arith

pub rank_fits : (waits : List Wait) (first : ℕ) (known : Table Progress) (path : List Pause) (visit : Visit) (t rank : ℕ) → IsSearching waits first known path visit → look known t ≡ Some (Ended rank) → rank + 1 < 2 ^ 32
rank_fits waits first known path visit t rank s ended =
    let room : len known ≤ 2 ^ 32 = few known (2 ^ 32) s.so_far.numbers in
    let lt : rank < s.counted.count = s.counted.ranks t rank ended in
    let fits : s.counted.count + length path < len known = s.counted.fits in
    bound rank s.counted.count (length path) (len known) lt fits room
  where
    bound : (rank count n size : ℕ) → rank < count → count + n < size → size ≤ 2 ^ 32 → rank + 1 < 2 ^ 32
    bound rank count n size lt fits room = omega arith

-- ---- a wait leads to a transaction that is gone through

pub come_again : (waits : List Wait) (first : ℕ) (known : Table Progress) (path longer : List Pause) (visit : Visit) (w : Wait) → IsSearching waits first known path visit → IsAtPlace waits visit.place w → w.held ≡ visit.txn →
    look known w.by ≡ Some Open → longer ≡ path ++ record { wait = w; place = visit.place; longest = visit.longest } ∷ [] → HasComeAgain waits first known longer w.by
come_again waits first known path longer visit w s here own opened pushed =
    subst (λ list. HasComeAgain waits first known list w.by) (sym pushed)
    (record {
      so_far = s.so_far;
      paused = All-push (IsPausedAt waits known) path (record { wait = w; place = visit.place; longest = visit.longest }) s.paused
          (record {
            gone = subst (λ t. IsGoneThrough waits known t visit.place visit.longest) (sym own) s.gone;
            here = here;
            is_open = subst (λ t. look known t ≡ Some Open) (sym own) s.is_open;
          });
      lead = lead_push path first visit.txn (record { wait = w; place = visit.place; longest = visit.longest }) s.lead own;
      apart = all_pairs_push (λ p q. p.wait.held ≢ q.wait.held) path (record { wait = w; place = visit.place; longest = visit.longest }) s.apart (λ k d lt same. s.new k d lt (same ∙ own));
      again = by (s.opened w.by opened);
    })
  where
    by : (w.by ≡ visit.txn) ⊎ Any (λ (p : Pause). p.wait.held ≡ w.by) path → Any (λ p. p.wait.held ≡ w.by) (path ++ record { wait = w; place = visit.place; longest = visit.longest } ∷ [])
    by (inl same) = Any-push (λ p. p.wait.held ≡ w.by) path (record { wait = w; place = visit.place; longest = visit.longest }) (own ∙ sym same)
    by (inr any) = any_front path (record { wait = w; place = visit.place; longest = visit.longest }) (λ p. p.wait.held ≡ w.by) any
