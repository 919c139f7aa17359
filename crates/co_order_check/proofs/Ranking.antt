-- A serial order gives each transaction a rank, and each reads what the last one before it left.
use Rattle.std.proofs.Common.{◌≡◌, ◌≢◌, ◌⊎◌, inl, inr, ℕ, zero, suc, ◌+◌, ◌<◌, ◌≤◌, Bool, true, false, T, if◌then◌else◌, List, [], ◌∷◌, ◌++◌, map, reverse, length, take, get_or, append_assoc, append-nil, is_some, Option, None, Some, refl, sym, ap, ◌∙◌, subst, eqb→eq, eq-eqb, arith, length-take-le}
use Rattle.std.specs.Prelude.{◌==◌}
use Rattle.std.proofs.lemmas.List.{reverse-append, get_or-map, get_or-take, length-map}
use Rattle.std.specs.FinMap.{get, get-empty}
use Rattle.co_base.specs.Order.{key_cmp}
use Rattle.co_serial.specs.SerialRun.{AllRecords, after_whole, run_whole}
use Rattle.co_check.proofs.Serially.{serial-more}
use Rattle.co_check.specs.Runs.{sites, replies}
use Rattle.co_check.specs.Serial.{IsSerial, ReadsSerially, no_records, serial_after}
use Rattle.co_check.specs.declared.client.Committed.{Committed}
use Rattle.co_order_check.specs.Order.{IsPermuted, IsSerialOrder, no_one, at, operations, in_order}
use Rattle.co_order_check.specs.Ranks.{Leaves, IsUntouched, IsLeftBy, IsSeen, Ran, Ranks}
use Rattle.co_order_check.specs.Reads.{Content, left, over}
use Rattle.co_order_check.specs.declared.record_id.RecordId.{RecordId}
use Rattle.co_order_check.proofs.Telling.{run_leaves}

-- ---- the serial run, the first transaction first

abbrev Serially : AllRecords → List Committed → Type 0
Serially all [] = Unit {0}
Serially all (d ∷ ds) = (replies (reverse d.told) ≡ run_whole all (sites (reverse d.told))) × Serially (after_whole all (sites (reverse d.told))) ds

turned : (d : Committed) (ds early : List Committed) → reverse (d ∷ ds) ++ early ≡ reverse ds ++ (d ∷ early)
turned d ds early = ap (λ z. z ++ early) (reverse-append (d ∷ []) ds) ∙ append_assoc (reverse ds) (d ∷ []) early

forward : (ds early : List Committed) → IsSerial (reverse ds ++ early) → Serially (serial_after early) ds × IsSerial early
forward [] early h = (tt, h)
forward (d ∷ ds) early h =
    let r = forward ds (d ∷ early) (subst IsSerial (turned d ds early) h) in
    ((r.1.0, subst (λ a. Serially a ds) (serial-more d early) r.0), r.1.1)

abbrev before_all : AllRecords → List Committed → AllRecords
before_all all [] = all
before_all all (d ∷ ds) = before_all (after_whole all (sites (reverse d.told))) ds

at_place : (all : AllRecords) (ds : List Committed) (p : ℕ) → Serially all ds → p < length ds →
    replies (reverse (get_or ds p no_one).told) ≡ run_whole (before_all all (take p ds)) (sites (reverse (get_or ds p no_one).told))
at_place all [] p h l = absurd (omega arith)
at_place all (d ∷ ds) zero h l = h.0
at_place all (d ∷ ds) (suc p) h l = at_place (after_whole all (sites (reverse d.told))) ds p h.1 (omega arith)

-- ---- what transactions leave in a record

abbrev left_of : RecordId → Committed → Option Content
left_of r d = left r (reverse d.told)

abbrev laid_all : RecordId → Content → List Committed → Content
laid_all r x [] = x
laid_all r x (d ∷ ds) = laid_all r (over (left_of r d) x) ds

all_leave : (all : AllRecords) (ds : List Committed) (r : RecordId) (x : Content) → get (all r.member) r.key ≡ x → get (before_all all ds r.member) r.key ≡ laid_all r x ds
all_leave all [] r x e = e
all_leave all (d ∷ ds) r x e = all_leave (after_whole all (sites (reverse d.told))) ds r (over (left_of r d) x) (run_leaves all (reverse d.told) r None x e)

record NoneLeaves (r : RecordId) (x : Content) (ds : List Committed) : Type 0 where
  same : laid_all r x ds ≡ x
  none : (q : ℕ) → q < length ds → is_some (left_of r (get_or ds q no_one)) ≡ true → ⊥

record LastLeaves (r : RecordId) (x : Content) (ds : List Committed) (q : ℕ) : Type 0 where
  below : q < length ds
  there : left_of r (get_or ds q no_one) ≡ Some (laid_all r x ds)
  last : (p : ℕ) → p < length ds → is_some (left_of r (get_or ds p no_one)) ≡ true → q < p → ⊥

abbrev Last : RecordId → Content → List Committed → Type 0
Last r x ds = NoneLeaves r x ds ⊎ ((q : ℕ) × LastLeaves r x ds q)

last_more : (r : RecordId) (x : Content) (d : Committed) (ds : List Committed) (o : Option Content) → left_of r d ≡ o → Last r (over (left_of r d) x) ds → Last r x (d ∷ ds)
last_more r x d ds o e (inr (q, l)) =
    inr (
      suc q,
      record {
        below = omega (arith, l.below);
        there = l.there;
        last = λ p. elim p as (λ p. p < length (d ∷ ds) → is_some (left_of r (get_or (d ∷ ds) p no_one)) ≡ true → suc q < p → ⊥) [
          | zero ↦ λ a b c. absurd (omega arith)
          | suc p ↦ λ a b c. l.last p (omega arith) b (omega arith)
        ];
      },
    )
last_more r x d ds None e (inl n) =
    inl (record {
      same = n.same ∙ ap (λ o. over o x) e;
      none = λ p. elim p as (λ p. p < length (d ∷ ds) → is_some (left_of r (get_or (d ∷ ds) p no_one)) ≡ true → ⊥) [
        | zero ↦ λ a b. absurd (let z : false ≡ true = sym (ap is_some e) ∙ b in cc)
        | suc p ↦ λ a b. n.none p (omega arith) b
      ];
    })
last_more r x d ds (Some v) e (inl n) =
    inr (
      zero,
      record {
        below = omega arith;
        there = e ∙ ap Some (sym (n.same ∙ ap (λ o. over o x) e));
        last = λ p. elim p as (λ p. p < length (d ∷ ds) → is_some (left_of r (get_or (d ∷ ds) p no_one)) ≡ true → zero < p → ⊥) [
          | zero ↦ λ a b c. absurd (omega arith)
          | suc p ↦ λ a b c. n.none p (omega arith) b
        ];
      },
    )

last_of : (r : RecordId) (x : Content) (ds : List Committed) → Last r x ds
last_of r x [] = inl (record { same = refl; none = λ q l s. absurd (omega arith) })
last_of r x (d ∷ ds) = last_more r x d ds (left_of r d) refl (last_of r (over (left_of r d) x) ds)

-- ---- ranks

abbrev rank_in : List ℕ → ℕ → ℕ
rank_in [] t = 0
rank_in (x ∷ xs) t = if x == t then 0 else suc (rank_in xs t)

record Found (xs : List ℕ) (t : ℕ) : Type 0 where
  below : rank_in xs t < length xs
  is : get_or xs (rank_in xs t) 0 ≡ t

found_step : (x t : ℕ) (xs : List ℕ) (b : Bool) → (x == t) ≡ b → (b ≡ false → Found xs t) →
    ((if b then 0 else suc (rank_in xs t)) < length (x ∷ xs)) × (get_or (x ∷ xs) (if b then 0 else suc (rank_in xs t)) 0 ≡ t)
found_step x t xs true e f = (omega arith, eqb→eq x t (subst T (sym e) tt))
found_step x t xs false e f = (omega (arith, (f refl).below), (f refl).is)

found : (xs : List ℕ) (t p : ℕ) → p < length xs → get_or xs p 0 ≡ t → Found xs t
found [] t p l e = absurd (omega arith)
found (x ∷ xs) t zero l e =
    let s = found_step x t xs true (ap (λ z. x == z) (sym e) ∙ eq-eqb x x refl) (λ z. absurd (let y : true ≡ false = z in cc)) in
    let same : (x == t) ≡ true = ap (λ z. x == z) (sym e) ∙ eq-eqb x x refl in
    record {
      below = subst (λ b. (if b then 0 else suc (rank_in xs t)) < length (x ∷ xs)) (sym same) s.0;
      is = subst (λ b. get_or (x ∷ xs) (if b then 0 else suc (rank_in xs t)) 0 ≡ t) (sym same) s.1;
    }
found (x ∷ xs) t (suc p) l e =
    let s = found_step x t xs (x == t) refl (λ z. found xs t p (omega arith) e) in
    record { below = s.0; is = s.1 }

-- ---- the ranks of a serial order

module _ (ds : List Committed) (order : List ℕ) (o : IsSerialOrder ds order) where
  found_at : (t : ℕ) → t < length ds → Found order t
  found_at t h = let e = o.permuted.each t h in found order t e.0 e.1 e.2

  rank_is : (p : ℕ) → p < length order → rank_in order (get_or order p 0) ≡ p
  rank_is p h =
      let f : Found order (get_or order p 0) = found order (get_or order p 0) p h refl in
      o.permuted.once (rank_in order (get_or order p 0)) p f.below h f.is

  placed : (p : ℕ) → p < length order → get_or (in_order ds order) p no_one ≡ at ds (get_or order p 0)
  placed p h = get_or-map (at ds) order p 0 no_one h

  ranked_at : (t : ℕ) → t < length ds → get_or (in_order ds order) (rank_in order t) no_one ≡ at ds t
  ranked_at t h = placed (rank_in order t) (found_at t h).below ∙ ap (at ds) (found_at t h).is

  serially : Serially no_records (in_order ds order)
  serially = (forward (in_order ds order) [] (subst IsSerial (sym (append-nil (reverse (in_order ds order)))) o.serial)).0

  long : (t : ℕ) → t < length ds → length (take (rank_in order t) (in_order ds order)) ≡ rank_in order t
  long t h = let l = (found_at t h).below in let e = length-map order (at ds) in let f : rank_in order t ≤ length (in_order ds order) = omega (arith, e, l) in length-take-le (rank_in order t) (in_order ds order) f

  shorter : (q t : ℕ) → t < length ds → q < length (take (rank_in order t) (in_order ds order)) → q < rank_in order t
  shorter q t h l = subst (λ z. q < z) (long t h) l

  short : (q t : ℕ) → t < length ds → q < rank_in order t → q < length (take (rank_in order t) (in_order ds order))
  short q t h l = subst (λ z. q < z) (sym (long t h)) l

  within : (q t : ℕ) → t < length ds → q < length (take (rank_in order t) (in_order ds order)) → q < length order
  within q t h l = let a = shorter q t h l in let b = (found_at t h).below in omega (arith, a, b)

  changes : (r : RecordId) (u t : ℕ) → u < length ds → Leaves ds u r → rank_in order u < rank_in order t →
      is_some (left_of r (get_or (take (rank_in order t) (in_order ds order)) (rank_in order u) no_one)) ≡ true
  changes r u t l s b =
      ap (λ d. is_some (left_of r d)) (get_or-take (rank_in order t) (in_order ds order) (rank_in order u) no_one b ∙ ranked_at u l) ∙ s

  seen : (t : ℕ) → t < length ds → (r : RecordId) → Last r None (take (rank_in order t) (in_order ds order)) →
      IsSeen ds (rank_in order) t r (laid_all r None (take (rank_in order t) (in_order ds order)))
  seen t h r (inl n) =
      inl (record {
        missing = n.same;
        none = λ u l s b. n.none (rank_in order u) (short (rank_in order u) t h b) (changes r u t l s b);
      })
  seen t h r (inr (q, l)) =
      inr (
        get_or order q 0,
        record {
          one = o.permuted.below q (within q t h l.below);
          before = subst (λ z. z < rank_in order t) (sym (rank_is q (within q t h l.below))) (shorter q t h l.below);
          left_there = ap (λ d. left_of r d) (sym (placed q (within q t h l.below)) ∙ sym (get_or-take (rank_in order t) (in_order ds order) q no_one (shorter q t h l.below))) ∙ l.there;
          last = λ u k s b c. l.last (rank_in order u) (short (rank_in order u) t h c) (changes r u t k s c)
              (subst (λ z. z < rank_in order u) (rank_is q (within q t h l.below)) b);
        },
      )

  ran : (t : ℕ) → t < length ds → Ran ds (rank_in order) t
  ran t h =
      record {
        on = before_all no_records (take (rank_in order t) (in_order ds order));
        same = subst (λ d. replies (reverse d.told) ≡ run_whole (before_all no_records (take (rank_in order t) (in_order ds order))) (sites (reverse d.told))) (ranked_at t h)
            (at_place no_records (in_order ds order) (rank_in order t) serially (subst (λ z. rank_in order t < z) (sym (length-map order (at ds))) (found_at t h).below));
        sees = λ r. subst (IsSeen ds (rank_in order) t r) (sym (all_leave no_records (take (rank_in order t) (in_order ds order)) r None (get-empty key_cmp r.key)))
            (seen t h r (last_of r None (take (rank_in order t) (in_order ds order))));
      }

  pub ranks : Ranks ds
  ranks =
      record {
        rank = rank_in order;
        apart = λ t u h k e. sym (found_at t h).is ∙ ap (λ p. get_or order p 0) e ∙ (found_at u k).is;
        ran = ran;
      }
