-- How far a walk over a log has come, and what the records tell and allow up to there.
use Rattle.std.proofs.Common.{◌≡◌, ℕ, suc, ◌+◌, Bool, true, false, List, [], ◌∷◌, ◌++◌, map, length, reverse, slice_get, if◌then◌else◌, Option, None, Some, refl, sym, ap, ◌∙◌, append_assoc, arith}
use Rattle.std.proofs.lemmas.List.{append-nil, map_push, reverse-append, length_push}
use Rattle.co_record.specs.declared.record.Record.{Record}
use Rattle.co_record.specs.Stored.{RecordWalk, HasLeft}
use Rattle.co_recover.specs.Recovered.{records_of, IsRefusedAt}

-- The walk has passed some records, which tell this view; and what is refused of all of them is what is refused of those
-- that are left.
pub record Reached {V : Type 0} (refused : ℕ → V → List Record → Option ℕ) (recovered : List Record → V) (items : List (ℕ × Record)) (walk : RecordWalk) (place : ℕ) (view : V) : Type 0 where
  pub done : List (ℕ × Record)
  pub rest : List (ℕ × Record)
  pub both : items ≡ done ++ rest
  pub left : HasLeft walk rest
  pub count : place ≡ length done
  pub told : view ≡ recovered (reverse (records_of done))
  pub goes : refused 0 (recovered []) (records_of items) ≡ refused place view (records_of rest)

records_after : (done : List (ℕ × Record)) (item : ℕ × Record) → reverse (records_of (done ++ item ∷ [])) ≡ item.1 ∷ reverse (records_of done)
records_after done item = ap reverse (map_push (λ (i : ℕ × Record). i.1) done item) ∙ reverse-append (records_of done) (item.1 ∷ [])

length_after : (done : List (ℕ × Record)) (item : ℕ × Record) → length (done ++ item ∷ []) ≡ length done + 1
length_after done item = length_push done item

placed_at : (done rest : List (ℕ × Record)) (at : ℕ) (r : Record) → slice_get (map (λ item. item.0) (done ++ (at, r) ∷ rest)) (length done) ≡ Some at
placed_at [] rest at r = refl
placed_at (item ∷ done) rest at r = placed_at done rest at r

module _ {V : Type 0} (allows : ℕ → V → Record → Bool) (tells : V → Record → V) (refused : ℕ → V → List Record → Option ℕ) (recovered : List Record → V)
    (none_refused : (place : ℕ) (v : V) → refused place v [] ≡ None)
    (one_refused : (place : ℕ) (v : V) (r : Record) (rs : List Record) → refused place v (r ∷ rs) ≡ (if allows place v r then refused (suc place) (tells v r) rs else Some place))
    (one_told : (r : Record) (rs : List Record) → recovered (r ∷ rs) ≡ tells (recovered rs) r) where
  pub at_start : (items : List (ℕ × Record)) (walk : RecordWalk) → HasLeft walk items → Reached refused recovered items walk 0 (recovered [])
  at_start items walk left = record { done = []; rest = items; both = refl; left = left; count = refl; told = refl; goes = refl }

  pub one_more : (items more : List (ℕ × Record)) (walk new : RecordWalk) (place at : ℕ) (view : V) (r : Record) → (reached : Reached refused recovered items walk place view)
      → reached.rest ≡ (at, r) ∷ more → HasLeft new more → allows place view r ≡ true → Reached refused recovered items new (place + 1) (tells view r)
  one_more items more walk new place at view r reached first left ok = record {
    done = reached.done ++ (at, r) ∷ [];
    rest = more;
    both = reached.both ∙ ap (λ (t : List (ℕ × Record)). reached.done ++ t) first ∙ sym (append_assoc reached.done ((at, r) ∷ []) more);
    left = left;
    count = ap (λ n. n + 1) reached.count ∙ sym (length_after reached.done (at, r));
    told = ap (λ v. tells v r) reached.told ∙ sym (one_told r (reverse (records_of reached.done))) ∙ ap recovered (sym (records_after reached.done (at, r)));
    goes = reached.goes ∙ ap (λ (t : List (ℕ × Record)). refused place view (records_of t)) first ∙ one_refused place view r (records_of more)
        ∙ ap (λ b. if b then refused (suc place) (tells view r) (records_of more) else Some place) ok ∙ ap (λ n. refused n (tells view r) (records_of more)) (let e : suc place ≡ place + 1 = omega arith in e);
  }

  pub refused_here : (items more : List (ℕ × Record)) (walk : RecordWalk) (place at : ℕ) (view : V) (r : Record) → (reached : Reached refused recovered items walk place view)
      → reached.rest ≡ (at, r) ∷ more → allows place view r ≡ false → IsRefusedAt items (refused 0 (recovered []) (records_of items)) at
  refused_here items more walk place at view r reached first bad = record {
    behind = place;
    first = reached.goes ∙ ap (λ (t : List (ℕ × Record)). refused place view (records_of t)) first ∙ one_refused place view r (records_of more)
        ∙ ap (λ b. if b then refused (suc place) (tells view r) (records_of more) else Some place) bad;
    place = ap (λ (t : List (ℕ × Record)). slice_get (map (λ item. item.0) t) place) (reached.both ∙ ap (λ (t : List (ℕ × Record)). reached.done ++ t) first)
        ∙ ap (λ n. slice_get (map (λ item. item.0) (reached.done ++ (at, r) ∷ more)) n) reached.count ∙ placed_at reached.done more at r;
  }

  pub at_end : (items : List (ℕ × Record)) (walk : RecordWalk) (place : ℕ) (view : V) → (reached : Reached refused recovered items walk place view)
      → reached.rest ≡ [] → (refused 0 (recovered []) (records_of items) ≡ None) × (view ≡ recovered (reverse (records_of items)))
  at_end items walk place view reached none = (
    reached.goes ∙ ap (λ (t : List (ℕ × Record)). refused place view (records_of t)) none ∙ none_refused place view,
    reached.told ∙ ap (λ (t : List (ℕ × Record)). recovered (reverse (records_of t))) (sym (reached.both ∙ ap (λ (t : List (ℕ × Record)). reached.done ++ t) none ∙ append-nil reached.done)),
  )

-- ---- what a choice says

pub none_means : {A : Type 0} (b : Bool) (x : A) → (if b then Some x else None) ≡ None → b ≡ false
none_means true x e = absurd cc
none_means false x e = refl

some_is : {A : Type 0} (x y : A) → Some x ≡ Some y → x ≡ y
some_is x y e = cc

pub some_means : {A : Type 0} (b : Bool) (x y : A) → (if b then Some x else None) ≡ Some y → (b ≡ true) × (x ≡ y)
some_means true x y e = (refl, some_is x y e)
some_means false x y e = absurd cc
