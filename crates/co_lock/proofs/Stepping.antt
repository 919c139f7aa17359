-- The kept data after each call, point by point.
use Rattle.std.proofs.Common.{◌≡◌, ◌≢◌, ℕ, Bool, true, false, cond, not, ◌&&◌, ◌||◌, List, if◌then◌else◌, Option, None, Some, is_some, refl, sym, ap, ◌∙◌, true≢false}
use Rattle.std.specs.Prelude.{◌==◌}
use Rattle.std.specs.FinMap.{get, entries, get-empty, get-insert, contains_key, insert}
use Rattle.co_base.specs.Order.{key_cmp}
use Rattle.co_serial.specs.Records.{Records, with_change}
use Rattle.co_state.specs.Keys.{same_key}
use Rattle.co_state.specs.Table.{look, without}
use Rattle.co_state.proofs.Tables.{look-put, look-without}
use Rattle.co_store.specs.declared.slots.Slot.{Slot}
use Rattle.co_store.specs.Images.{slot_of, or_nothing, with_image}
use Rattle.co_store.specs.StoreState.{StoreState, images_of, laid_back, with_put, with_undone, with_kept, IsFree}
use Rattle.co_locktab.proofs.Orders.{keys_total}
use Rattle.co_law_engine.proofs.Keys.{get-change, same_key_sym, same_key_is}
use Rattle.co_lock.specs.LockedState.{LockedState, seen_by, IsClear, ended}
use Rattle.co_lock.specs.LockedState as state
use Rattle.co_lock.proofs.Locking.{same_as, one_of, other_than, itself, slot_value, get-undone, neither_left, neither_right, right_true}

-- what the kept data say of a state, without the locks
pub record ArePlaced (s : StoreState) (g : LockedState) : Type 0 where
  pub images_are : (u : ℕ) (q : List ℕ) → get (images_of s u) q ≡ (if g.wrote u q then Some (slot_of (get g.installed q)) else None)
  pub written_are : (u : ℕ) (q : List ℕ) → g.wrote u q ≡ true → get s.now q ≡ g.value u q
  pub clean_are : (q : List ℕ) → ((u : ℕ) → g.wrote u q ≡ false) → get s.now q ≡ get g.installed q
  pub apart : (u v : ℕ) (q : List ℕ) → u ≢ v → g.wrote u q ≡ true → g.wrote v q ≡ false

some_if : (b : Bool) (s : Slot) → is_some (if b then Some s else None) ≡ b
some_if true s = refl
some_if false s = refl

pub has_image : (s : StoreState) (g : LockedState) (u : ℕ) (q : List ℕ) → ArePlaced s g → contains_key (images_of s u) q ≡ g.wrote u q
has_image s g u q h = ap is_some (h.images_are u q) ∙ some_if (g.wrote u q) (slot_of (get g.installed q))

-- a key that no other one wrote is free
pub free_of : (s : StoreState) (g : LockedState) (t : ℕ) (key : List ℕ) → ArePlaced s g → IsClear g t key → IsFree s t key
free_of s g t key h clear u n = has_image s g u key h ∙ clear u n

-- ---- what one sees
pub seen_in_place : (s : StoreState) (g : LockedState) (t : ℕ) (q : List ℕ) → ArePlaced s g → IsClear g t q → get s.now q ≡ seen_by g t q
seen_in_place s g t q h clear = by (g.wrote t q) refl
  where
    all_clear : g.wrote t q ≡ false → (u : ℕ) → (b : Bool) → (u == t) ≡ b → g.wrote u q ≡ false
    all_clear e u true is = ap (λ j. g.wrote j q) (one_of u t is) ∙ e
    all_clear e u false is = clear u (other_than u t is)

    by : (b : Bool) → g.wrote t q ≡ b → get s.now q ≡ (if b then g.value t q else get g.installed q)
    by true e = h.written_are t q e
    by false e = h.clean_are q (λ u. all_clear e u (u == t) refl)

-- ---- a write
module _ (s : StoreState) (g : LockedState) (t : ℕ) (key : List ℕ) (value : Option (List ℕ)) (h : ArePlaced s g) (clear : IsClear g t key) where
  abbrev pub mine : ℕ → List ℕ → Bool
  mine u q = (u == t) && same_key key q

  image_by : (q : List ℕ) (b : Bool) → g.wrote t key ≡ b
      → get (if b then images_of s t else insert (images_of s t) key (slot_of (get s.now key))) q ≡ (if same_key key q || g.wrote t q then Some (slot_of (get g.installed q)) else None)
  image_by q true e = h.images_are t q ∙ by (same_key key q) refl
    where
      by : (b : Bool) → same_key key q ≡ b → (if g.wrote t q then Some (slot_of (get g.installed q)) else None) ≡ (if b || g.wrote t q then Some (slot_of (get g.installed q)) else None)
      by true is = ap (λ b. if b then Some (slot_of (get g.installed q)) else None) (ap (g.wrote t) (sym (same_key_is key q is)) ∙ e)
      by false is = refl
  image_by q false e = get-insert keys_total (images_of s t) key (slot_of (get s.now key)) q ∙ by (same_key key q) refl
    where
      before : get s.now key ≡ get g.installed key
      before = seen_in_place s g t key h clear ∙ ap (λ b. if b then g.value t key else get g.installed key) e

      by : (b : Bool) → same_key key q ≡ b → cond (same_key q key) (Some (slot_of (get s.now key))) (get (images_of s t) q) ≡ (if b || g.wrote t q then Some (slot_of (get g.installed q)) else None)
      by true is = ap (λ b. cond b (Some (slot_of (get s.now key))) (get (images_of s t) q)) (same_key_sym q key ∙ is) ∙ ap (λ v. Some (slot_of v)) (before ∙ ap (get g.installed) (same_key_is key q is))
      by false is = ap (λ b. cond b (Some (slot_of (get s.now key))) (get (images_of s t) q)) (same_key_sym q key ∙ is) ∙ h.images_are t q

  image_own : (q : List ℕ) → get (with_image (images_of s t) key (get s.now key)) q ≡ (if same_key key q || g.wrote t q then Some (slot_of (get g.installed q)) else None)
  image_own q = ap (λ b. get (if b then images_of s t else insert (images_of s t) key (slot_of (get s.now key))) q) (has_image s g t key h) ∙ image_by q (g.wrote t key) refl

  images_by : (u : ℕ) (q : List ℕ) (b : Bool) → (u == t) ≡ b
      → get (or_nothing (cond b (Some (with_image (images_of s t) key (get s.now key))) (look s.undos u))) q ≡ (if (b && same_key key q) || g.wrote u q then Some (slot_of (get g.installed q)) else None)
  images_by u q true e = image_own q ∙ ap (λ j. if same_key key q || g.wrote j q then Some (slot_of (get g.installed q)) else None) (sym (one_of u t e))
  images_by u q false e = h.images_are u q

  now_by : (u : ℕ) (q : List ℕ) (b c : Bool) → (u == t) ≡ b → same_key key q ≡ c → ((b && c) || g.wrote u q) ≡ true → (if c then value else get s.now q) ≡ (if b && c then value else g.value u q)
  now_by u q true true e f w = refl
  now_by u q false true e f w = absurd (true≢false (sym w ∙ ap (g.wrote u) (sym (same_key_is key q f)) ∙ clear u (other_than u t e)))
  now_by u q true false e f w = h.written_are u q w
  now_by u q false false e f w = h.written_are u q w

  get_now : (q : List ℕ) → get (with_change s.now key value) q ≡ (if same_key key q then value else get s.now q)
  get_now q = get-change s.now key value q ∙ ap (λ b. if b then value else get s.now q) (same_key_sym q key)

  not_mine : (q : List ℕ) (c : Bool) → same_key key q ≡ c → ((t == t) && c) ≡ false → c ≡ false
  not_mine q true e f = absurd (true≢false (sym (ap (λ b. b && true) (itself t)) ∙ f))
  not_mine q false e f = refl

  apart_by : (u v : ℕ) (q : List ℕ) (b c : Bool) → (u == t) ≡ b → (v == t) ≡ c → (k : Bool) → same_key key q ≡ k → u ≢ v → ((b && k) || g.wrote u q) ≡ true → ((c && k) || g.wrote v q) ≡ false
  apart_by u v q true true e f k is n w = absurd (n (one_of u t e ∙ sym (one_of v t f)))
  apart_by u v q true false e f true is n w = ap (g.wrote v) (sym (same_key_is key q is)) ∙ clear v (other_than v t f)
  apart_by u v q true false e f false is n w = h.apart u v q n w
  apart_by u v q false true e f true is n w = absurd (true≢false (sym w ∙ ap (g.wrote u) (sym (same_key_is key q is)) ∙ clear u (other_than u t e)))
  apart_by u v q false true e f false is n w = h.apart u v q n w
  apart_by u v q false false e f k is n w = h.apart u v q n w

  pub placed_write : ArePlaced (with_put s t key value) (state.with_write g t key value)
  placed_write = record {
    images_are = λ u q. ap (λ o. get (or_nothing o) q) (look-put s.undos t (with_image (images_of s t) key (get s.now key)) u)
        ∙ ap (λ b. get (or_nothing (cond b (Some (with_image (images_of s t) key (get s.now key))) (look s.undos u))) q) (same_as u t) ∙ images_by u q (u == t) refl;
    written_are = λ u q w. get_now q ∙ now_by u q (u == t) (same_key key q) refl refl w;
    clean_are = λ q none.
        get_now q ∙ ap (λ b. if b then value else get s.now q) (not_mine q (same_key key q) refl (neither_left _ _ (none t)))
        ∙ h.clean_are q (λ u. neither_right _ _ (none u));
    apart = λ u v q n w. apart_by u v q (u == t) (v == t) refl refl (same_key key q) refl n w;
  }

-- ---- an end
module _ (s : StoreState) (g : LockedState) (t : ℕ) (records : Records) (now : Records) (h : ArePlaced s g)
    (installs : (q : List ℕ) → g.wrote t q ≡ false → get records q ≡ get g.installed q) (stays : (q : List ℕ) → g.wrote t q ≡ false → get now q ≡ get s.now q) (own : (q : List ℕ) → g.wrote t q ≡ true → get now q ≡ get records q) where
  gone_images : (u : ℕ) (q : List ℕ) (b : Bool) → (u == t) ≡ b → get (or_nothing (cond b None (look s.undos u))) q ≡ (if not b && g.wrote u q then Some (slot_of (get records q)) else None)
  gone_images u q true e = get-empty key_cmp q
  gone_images u q false e = h.images_are u q ∙ by (g.wrote u q) refl
    where
      by : (b : Bool) → g.wrote u q ≡ b → (if b then Some (slot_of (get g.installed q)) else None) ≡ (if b then Some (slot_of (get records q)) else None)
      by true w = ap (λ v. Some (slot_of v)) (sym (installs q (h.apart u t q (other_than u t e) w)))
      by false w = refl

  still_there : (u : ℕ) (q : List ℕ) (b : Bool) → (u == t) ≡ b → (not b && g.wrote u q) ≡ true → get now q ≡ g.value u q
  still_there u q true e w = absurd (true≢false (sym w))
  still_there u q false e w = stays q (h.apart u t q (other_than u t e) w) ∙ h.written_are u q w

  clean_now : (q : List ℕ) → ((u : ℕ) → (not (u == t) && g.wrote u q) ≡ false) → (b : Bool) → g.wrote t q ≡ b → get now q ≡ get records q
  clean_now q none true e = own q e
  clean_now q none false e = stays q e ∙ h.clean_are q (λ u. by u (u == t) refl (none u)) ∙ sym (installs q e)
    where
      by : (u : ℕ) (b : Bool) → (u == t) ≡ b → (not b && g.wrote u q) ≡ false → g.wrote u q ≡ false
      by u true is f = ap (λ j. g.wrote j q) (one_of u t is) ∙ e
      by u false is f = f

  apart_still : (u v : ℕ) (q : List ℕ) (a b : Bool) → u ≢ v → (a && g.wrote u q) ≡ true → (b && g.wrote v q) ≡ false
  apart_still u v q a true n w = h.apart u v q n (right_true _ _ w)
  apart_still u v q a false n w = refl

  pub placed_end : ArePlaced (record { now = now; undos = without s.undos t }) (ended g t records)
  placed_end = record {
    images_are = λ u q. ap (λ o. get (or_nothing o) q) (look-without s.undos t u) ∙ ap (λ b. get (or_nothing (cond b None (look s.undos u))) q) (same_as u t) ∙ gone_images u q (u == t) refl;
    written_are = λ u q w. still_there u q (u == t) refl w;
    clean_are = λ q none. clean_now q none (g.wrote t q) refl;
    apart = λ u v q n w. apart_still u v q (not (u == t)) (not (v == t)) n w;
  }

if_true : (b : Bool) (x y : Option (List ℕ)) → b ≡ true → (if b then x else y) ≡ x
if_true b x y e = ap (λ c. if c then x else y) e

if_false : (b : Bool) (x y : Option (List ℕ)) → b ≡ false → (if b then x else y) ≡ y
if_false b x y e = ap (λ c. if c then x else y) e

pub placed_kept : (s : StoreState) (g : LockedState) (t : ℕ) (records : Records) → ArePlaced s g → ((q : List ℕ) → get records q ≡ seen_by g t q) → ArePlaced (with_kept s t) (ended g t records)
placed_kept s g t records h is =
    placed_end s g t records s.now h
    (λ q e. is q ∙ if_false (g.wrote t q) _ _ e)
    (λ q e. refl)
    (λ q e. h.written_are t q e ∙ sym (is q ∙ if_true (g.wrote t q) _ _ e))

pub placed_undone : (s : StoreState) (g : LockedState) (t : ℕ) → ArePlaced s g → ArePlaced (with_undone s t) (ended g t g.installed)
placed_undone s g t h =
    placed_end s g t g.installed (laid_back s.now (entries (images_of s t))) h
    (λ q e. refl)
    (λ q e. get-undone s.now (images_of s t) q ∙ ap (λ o. slot_value o (get s.now q)) (h.images_are t q ∙ ap (λ b. if b then Some (slot_of (get g.installed q)) else None) e))
    (λ q e. get-undone s.now (images_of s t) q ∙ ap (λ o. slot_value o (get s.now q)) (h.images_are t q ∙ ap (λ b. if b then Some (slot_of (get g.installed q)) else None) e))
