-- What is kept of the keys of recent installs.
use Rattle.std.proofs.Common.{◌≡◌, ◌⊎◌, inl, inr, ℕ, ◌+◌, ◌<◌, ◌≤◌, Bool, true, false, not, cond, List, [], map, length, None, Some, refl, sym, ap, ◌∙◌, subst, true≢false, arith}
use Rattle.std.specs.Prelude.{nat_le, ◌==◌}
use Rattle.std.proofs.lemmas.Bool.Decides.{nat_tests}
use Rattle.std.specs.Ordering.{nat_cmp, eq_by_cmp}
use Rattle.co_base.specs.declared.written.Written.{Written}
use Rattle.co_serial.specs.Records.{Records}
use Rattle.co_state.specs.declared.engine_state.Install.{Install}
use Rattle.co_state.specs.Table.{look, put, without}
use Rattle.co_state.proofs.Tables.{look-put, look-without}
use Rattle.co_mv.specs.declared.archive.Archive.{Archive}
use Rattle.co_mv.specs.declared.snapshots.Snapshots.{Snapshots}
use Rattle.co_mv.specs.Kept.{held, needed, IsHeld, IsNeeded, IsNext, IsReleased, IsGreatestHeld, WereAllKept, IsPruned, IsNarrowed, Keeps}
use Rattle.co_mv.specs.Versions.{stays}
use Rattle.co_mv.specs.Recents.{Recents, keys_at, keys_in}
use Rattle.co_mv.proofs.Archiving.{Noted}
use Rattle.co_mv.proofs.Releasing.{Ends, were_all_kept, StayKept, stay_kept_above, stay_kept_below, keeps_released}
use Rattle.co_mv.proofs.Stamping.{some_held, not_held}
use Rattle.co_mv.proofs.Chaining.{last_or}
use Rattle.co_mv.proofs.Needing.{tied, ties-itself}
use Rattle.co_mv.proofs.Versioning.{true_le, same_itself}

-- ---- the keys of recent installs
apart : (n k : ℕ) (b : Bool) → (n < k) ⊎ (k < n) → eq_by_cmp nat_cmp n k ≡ b → b ≡ false
apart n k true (inl h) e = let x : n ≡ k = tied n k e in absurd (omega (arith, x, h))
apart n k true (inr h) e = let x : n ≡ k = tied n k e in absurd (omega (arith, x, h))
apart n k false h e = refl

pub keys-forgotten : (m : Recents) (k n : ℕ) → (n < k) ⊎ (k < n) → keys_at (without m k) n ≡ keys_at m n
keys-forgotten m k n h = ap keys_in (look-without m k n ∙ ap (λ b. cond b None (look m n)) (apart n k (eq_by_cmp nat_cmp n k) h refl))

pub keys-gone : (m : Recents) (k n : ℕ) → n ≤ k + 1 → (n ≤ k → keys_at m n ≡ []) → keys_at (without m (k + 1)) n ≡ []
keys-gone m k n h f = ap keys_in (look-without m (k + 1) n) ∙ by (eq_by_cmp nat_cmp n (k + 1)) refl
  where
    by : (b : Bool) → eq_by_cmp nat_cmp n (k + 1) ≡ b → keys_in (cond b None (look m n)) ≡ []
    by true e = refl
    by false e = f (below (last_or n k h))
      where
        below : (n ≡ k + 1) ⊎ (n ≤ k) → n ≤ k
        below (inl x) = absurd (true≢false (sym (ties-itself n) ∙ ap (eq_by_cmp nat_cmp n) x ∙ e))
        below (inr x) = x

pub number_bound : (a : Archive) (base : Records) (is : List Install) (s : Snapshots) (m : ℕ) → IsReleased a.snapshots s m → Keeps a base is → m ≤ s.installs
number_bound a base is s m r k = let i = r.installs_stay in let j : m ≤ a.snapshots.installs = k.held_are m r.was_held in omega (arith, i, j)

-- what is forgotten was seen by all
pub forgotten : (s : Snapshots) (m next : ℕ) (old new : Recents) → IsNext s m next → ((k : ℕ) → IsHeld s k → m ≤ k) → ((n : ℕ) → next < n → keys_at new n ≡ keys_at old n)
    → (k n : ℕ) → IsHeld s k → k < n → keys_at new n ≡ keys_at old n
forgotten s m next old new after none same k n h l =
    let a : m ≤ k = none k h in
    let b : next ≤ k = after.is_least k h a in
    same n (omega (arith, b, l))

-- nor is anything else of what all have seen kept, whether the window is forgotten or some reader is still before it
pub released_ends : (a : Archive) (base : Records) (is : List Install) (m next : ℕ) (s : Snapshots) (new : Recents) → Keeps a base is → IsReleased a.snapshots s m → IsNext s m next
    → ((n : ℕ) → next < n → keys_at new n ≡ keys_at a.recents n) → ((n : ℕ) → m < n → n ≤ next → keys_at new n ≡ []) → ((n : ℕ) → n ≤ m → keys_at new n ≡ keys_at a.recents n) → Ends s new
released_ends a base is m next s new k r after later gone earlier = record {
  seen = λ n h. by n h (nat_le n m) refl;
  bound = λ n h. let i = r.installs_stay in let j = next_bound after.is_needed in later n (omega (arith, h, i, j)) ∙ k.recents_bound n (omega (arith, h, i));
}
  where
    next_bound : IsNeeded s next → next ≤ a.snapshots.installs
    next_bound (inl x) = let i = r.installs_stay in omega (arith, x, i)
    next_bound (inr h) = k.held_are next (r.was next h)

    all_before : (n x : ℕ) → ((x : ℕ) → IsHeld s x → n ≤ x) → n ≤ m → IsHeld s x ⊎ (x ≡ m) → n ≤ x
    all_before n x h l (inl g) = h x g
    all_before n x h l (inr z) = omega (arith, l, z)

    behind : (n : ℕ) → ((x : ℕ) → IsHeld s x → n ≤ x) → next < n → IsNeeded s next → keys_at new n ≡ []
    behind n h l (inl x) = let i = r.installs_stay in later n l ∙ k.recents_bound n (omega (arith, x, l, i))
    behind n h l (inr g) = let z : n ≤ next = h next g in absurd (omega (arith, l, z))

    by : (n : ℕ) → ((x : ℕ) → IsHeld s x → n ≤ x) → (b : Bool) → nat_le n m ≡ b → keys_at new n ≡ []
    by n h true f = let l : n ≤ m = true_le n m f in earlier n l ∙ k.recents_end n (λ x g. all_before n x h l (r.others_stay x g))
    by n h false f = inside (nat_le n next) refl
      where
        inside : (b : Bool) → nat_le n next ≡ b → keys_at new n ≡ []
        inside true g = gone n (grind (arith, nat_tests)) (true_le n next g)
        inside false g = behind n h (grind (arith, nat_tests)) after.is_needed

pub released_ends_before : (a : Archive) (base : Records) (is : List Install) (m before : ℕ) (s : Snapshots) → Keeps a base is → IsReleased a.snapshots s m → IsHeld s before → before < m → Ends s a.recents
released_ends_before a base is m before s k r there l = record {
  seen = λ n h. k.recents_end n (λ x g. all n x (h before there) h (r.others_stay x g));
  bound = λ n h. k.recents_bound n (let i = r.installs_stay in omega (arith, h, i));
}
  where
    all : (n x : ℕ) → n ≤ before → ((x : ℕ) → IsHeld s x → n ≤ x) → IsHeld s x ⊎ (x ≡ m) → n ≤ x
    all n x p h (inl g) = h x g
    all n x p h (inr z) = omega (arith, p, l, z)

-- ---- the keys of the newest install
same_number : (m n : ℕ) (b : Bool) → (m == n) ≡ false → eq_by_cmp nat_cmp m n ≡ b → b ≡ false
same_number m n true e f = absurd (true≢false (sym (ap (λ k. k == n) (tied m n f) ∙ same_itself n) ∙ e))
same_number m n false e f = refl

pub noted_put : (a : Archive) (recents : Recents) (n : ℕ) (ws : List Written) (keys : List (List ℕ)) → recents ≡ put a.recents n keys → keys ≡ map (λ w. w.key) ws → not (length (held a.snapshots) == 0) ≡ true → Noted a recents n ws
noted_put a recents n ws keys e f some = record {
  newest = λ m h. ap (λ x. keys_at x n) e ∙ ap keys_in (look-put a.recents n keys n ∙ ap (λ b. cond b (Some keys) (look a.recents n)) (ties-itself n)) ∙ f;
  others = λ m h. ap (λ x. keys_at x m) e ∙ ap keys_in (look-put a.recents n keys m ∙ ap (λ b. cond b (Some keys) (look a.recents m)) (same_number m n (eq_by_cmp nat_cmp m n) h refl));
  read = inr (some_held a.snapshots some);
}

pub noted_none : (a : Archive) (n : ℕ) (ws : List Written) → not (length (held a.snapshots) == 0) ≡ false → Noted a a.recents n ws
noted_none a n ws e = record {
  newest = λ m h. absurd (not_held a.snapshots m e h);
  others = λ m h. refl;
  read = inl refl;
}

-- ---- a number is held no more
-- another reader reads at an earlier number, so that nothing is forgotten
pub keeps_narrowed : (a b : Archive) (base : Records) (is : List Install) (s : Snapshots) (m next before : ℕ) (window : ℕ × ℕ) → IsReleased a.snapshots s m → IsNext s m next → IsGreatestHeld s m before
    → (window ≡ (before, m)) ⊎ (window ≡ (m, next)) → IsNarrowed m window.0 window.1 (record a { snapshots = s }) b → Keeps a base is → Keeps b base is
keeps_narrowed a b base is s m next before window r after earlier w n k =
    keeps_released a b base is s m window.0 window.1 n.snapshots_stay r (by w) (n.pruned (were_all_kept a base is s m r k))
    (λ x j h l. ap (λ m. keys_at m j) n.recents_stay)
    (subst (λ m. Ends s m) (sym n.recents_stay) (released_ends_before a base is m before s k r earlier.is_held earlier.is_below)) k
  where
    by : (window ≡ (before, m)) ⊎ (window ≡ (m, next)) → StayKept a is s window.0 window.1
    by (inl e) = subst (λ (p : ℕ × ℕ). StayKept a is s p.0 p.1) (sym e) (stay_kept_below a base is s m before r earlier.is_held earlier.is_below k)
    by (inr e) = subst (λ (p : ℕ × ℕ). StayKept a is s p.0 p.1) (sym e) (stay_kept_above a base is s m next r after k)

-- it was the least number
pub keeps_forgotten : (a b : Archive) (base : Records) (is : List Install) (s : Snapshots) (m next : ℕ) → IsReleased a.snapshots s m → IsNext s m next → ((n : ℕ) → IsHeld s n → m ≤ n) → b.snapshots ≡ s
    → (WereAllKept s m a.chains → IsPruned (stays m (needed s)) a.recents m next a.chains b.chains)
    → ((n : ℕ) → next < n → keys_at b.recents n ≡ keys_at a.recents n) → ((n : ℕ) → m < n → n ≤ next → keys_at b.recents n ≡ []) → ((n : ℕ) → n ≤ m → keys_at b.recents n ≡ keys_at a.recents n)
    → Keeps a base is → Keeps b base is
keeps_forgotten a b base is s m next r after least es pruned later gone earlier k =
    keeps_released a b base is s m m next es r (stay_kept_above a base is s m next r after k) (pruned (were_all_kept a base is s m r k))
    (forgotten s m next a.recents b.recents after least later)
    (released_ends a base is m next s b.recents k r after later gone earlier) k
