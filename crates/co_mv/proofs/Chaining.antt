-- What chains hold at each key.
use Rattle.std.proofs.Common.{◌≡◌, ◌⊎◌, inl, inr, ℕ, ◌+◌, ◌<◌, ◌≤◌, Bool, true, false, cond, ◌||◌, List, [], ◌∷◌, filter, length, if◌then◌else◌, Option, None, Some, refl, sym, ap, ◌∙◌, arith, eqb→eq, T, subst}
use Rattle.std.specs.Prelude.{◌==◌}
use Rattle.std.specs.FinMap.{get, insert, remove, get-insert, get-remove, slice_cmp-IsAntisymmetric, nat_cmp-IsAntisymmetric}
use Rattle.std.proofs.lemmas.Cmp.{nat_list_cmp_total}
use Rattle.co_base.specs.Order.{key_cmp}
use Rattle.co_base.specs.declared.written.Written.{Written}
use Rattle.co_state.specs.Keys.{same_key}
use Rattle.co_mv.specs.declared.snapshots.Snapshots.{Snapshots}
use Rattle.co_mv.specs.declared.version.Version.{Version}
use Rattle.co_mv.specs.Chains.{Chains, chain_in, chain_of, laid, rewritten, rewritten_all, narrowed_in, narrowed, settled, pruned, pruned_all}
use Rattle.co_mv.specs.Kept.{IsPruned, AreLeft, WereKept, WereAllKept}
use Rattle.co_mv.specs.Recents.{Recents, keys_at, has_key}
use Rattle.co_mv.specs.Versions.{later, last_change, closed, with_write}
use Rattle.co_mv.proofs.Needing.{Each, filter-within}
use Rattle.co_mv.proofs.Ordering.{were_filter}
use Rattle.co_mv.proofs.Versioning.{key_symm}
use Rattle.co_state.proofs.Ties.{tie}

pub same_keys : (q k : List ℕ) → same_key q k ≡ true → q ≡ k
same_keys q k e = slice_cmp-IsAntisymmetric nat_cmp-IsAntisymmetric q k (tie (key_cmp q k) e)

chain-cond : (b : Bool) (o p : Option (List Version)) → chain_in (cond b o p) ≡ cond b (chain_in o) (chain_in p)
chain-cond true o p = refl
chain-cond false o p = refl

pub chain-insert : (m : Chains) (k : List ℕ) (vs : List Version) (q : List ℕ) → chain_of (insert m k vs) q ≡ cond (same_key q k) vs (chain_of m q)
chain-insert m k vs q = ap chain_in (get-insert nat_list_cmp_total m k vs q) ∙ chain-cond (same_key q k) (Some vs) (get m q)

chain-remove : (m : Chains) (k q : List ℕ) → chain_of (remove m k) q ≡ cond (same_key q k) [] (chain_of m q)
chain-remove m k q = ap chain_in (get-remove nat_list_cmp_total m k q) ∙ chain-cond (same_key q k) None (get m q)

cond-cond : {A : Type 0} (b : Bool) (x y z : A) → cond b x (cond b y z) ≡ cond b x z
cond-cond true x y z = refl
cond-cond false x y z = refl

chain-laid : (m : Chains) (k : List ℕ) (vs : List Version) (q : List ℕ) → chain_of (laid (remove m k) k vs) q ≡ cond (same_key q k) vs (chain_of m q)
chain-laid m k [] q = chain-remove m k q
chain-laid m k (v ∷ vs) q =
    chain-insert (remove m k) k (v ∷ vs) q ∙ ap (cond (same_key q k) (v ∷ vs)) (chain-remove m k q) ∙ cond-cond (same_key q k) (v ∷ vs) [] (chain_of m q)

-- ---- chains that are pruned
chain-narrowed : (keep : Version → Bool) (m : Chains) (k q : List ℕ) → chain_of (narrowed keep m k) q ≡ cond (same_key q k) (filter keep (chain_of m k)) (chain_of m q)
chain-narrowed keep m k q = by (get m k) refl
  where
    stays : (b : Bool) → same_key q k ≡ b → get m k ≡ None → chain_of m q ≡ cond b [] (chain_of m q)
    stays true t e = ap (chain_of m) (same_keys q k t) ∙ ap chain_in e
    stays false t e = refl

    by : (o : Option (List Version)) → get m k ≡ o → chain_of (narrowed_in keep m k o) q ≡ cond (same_key q k) (filter keep (chain_in o)) (chain_of m q)
    by None e = stays (same_key q k) refl e
    by (Some chain) e = chain-insert m k (filter keep chain) q

no_length : (vs : List Version) → (length vs == 0) ≡ true → vs ≡ []
no_length [] e = refl
no_length (v ∷ vs) e = let x : length (v ∷ vs) ≡ 0 = eqb→eq (length (v ∷ vs)) 0 (subst T (sym e) tt) in absurd (omega (arith, x))

chain-settled : (m : Chains) (k q : List ℕ) → chain_of (settled m k) q ≡ chain_of m q
chain-settled m k q = by (length (chain_of m k) == 0) refl
  where
    gone : (b : Bool) → same_key q k ≡ b → chain_of m k ≡ [] → cond b [] (chain_of m q) ≡ chain_of m q
    gone true t e = sym (ap (chain_of m) (same_keys q k t) ∙ e)
    gone false t e = refl

    by : (b : Bool) → (length (chain_of m k) == 0) ≡ b → chain_of (if b then remove m k else m) q ≡ chain_of m q
    by true e = chain-remove m k q ∙ gone (same_key q k) refl (no_length (chain_of m k) e)
    by false e = refl

chain-pruned : (keep : Version → Bool) (m : Chains) (k q : List ℕ) → chain_of (pruned keep m k) q ≡ cond (same_key q k) (filter keep (chain_of m k)) (chain_of m q)
chain-pruned keep m k q = chain-settled (narrowed keep m k) k q ∙ chain-narrowed keep m k q

pub each_one : (P : Version → Type 0) → ((v : Version) → P v) → (vs : List Version) → Each P vs
each_one P f [] = tt
each_one P f (v ∷ vs) = (f v, each_one P f vs)

pub filter-twice : (keep : Version → Bool) (vs : List Version) → filter keep (filter keep vs) ≡ filter keep vs
filter-twice keep vs = filter-within keep keep vs (each_one (λ v. keep v ≡ true → keep v ≡ true) (λ v e. e) vs)

pub chain-pruned_all : (keep : Version → Bool) (m : Chains) (keys : List (List ℕ)) (q : List ℕ) → chain_of (pruned_all keep m keys) q ≡ (if has_key keys q then filter keep (chain_of m q) else chain_of m q)
chain-pruned_all keep m [] q = refl
chain-pruned_all keep m (k ∷ ks) q = chain-pruned_all keep (pruned keep m k) ks q ∙ by (same_key k q) refl
  where
    twice : (b : Bool) (vs : List Version) → (if b then filter keep (filter keep vs) else filter keep vs) ≡ filter keep vs
    twice true vs = filter-twice keep vs
    twice false vs = refl

    by : (b : Bool) → same_key k q ≡ b
        → (if has_key ks q then filter keep (chain_of (pruned keep m k) q) else chain_of (pruned keep m k) q) ≡ (if (b || has_key ks q) then filter keep (chain_of m q) else chain_of m q)
    by true t =
        let here : chain_of (pruned keep m k) q ≡ filter keep (chain_of m q) =
        chain-pruned keep m k q ∙ ap (λ b. cond b (filter keep (chain_of m k)) (chain_of m q)) (key_symm q k ∙ t) ∙ ap (λ j. filter keep (chain_of m j)) (same_keys k q t) in
        ap (λ vs. if has_key ks q then filter keep vs else vs) here ∙ twice (has_key ks q) (chain_of m q)
    by false t =
        ap (λ vs. if has_key ks q then filter keep vs else vs) (chain-pruned keep m k q ∙ ap (λ b. cond b (filter keep (chain_of m k)) (chain_of m q)) (key_symm q k ∙ t))

-- ---- what was kept before
pub were_pruned : (s : Snapshots) (n : ℕ) (keep : Version → Bool) (m : Chains) (k : List ℕ) → WereAllKept s n m → WereAllKept s n (pruned keep m k)
were_pruned s n keep m k w q = subst (WereKept s n) (sym (chain-pruned keep m k q)) (by (same_key q k))
  where
    by : (b : Bool) → WereKept s n (cond b (filter keep (chain_of m k)) (chain_of m q))
    by true = were_filter s n keep (chain_of m k) (w k)
    by false = w q

pub were_pruned_all : (s : Snapshots) (n : ℕ) (keep : Version → Bool) (m : Chains) (keys : List (List ℕ)) → WereAllKept s n m → WereAllKept s n (pruned_all keep m keys)
were_pruned_all s n keep m [] w = w
were_pruned_all s n keep m (k ∷ ks) w = were_pruned_all s n keep (pruned keep m k) ks (were_pruned s n keep m k w)

-- ---- a window of installs
pub pruned_start : (keep : Version → Bool) (recents : Recents) (from : ℕ) (m : Chains) → IsPruned keep recents from from m m
pruned_start keep recents from m = λ key. inr (refl, λ n a b. absurd (omega (arith, a, b)))

pub last_or : (n k : ℕ) → n ≤ k + 1 → (n ≡ k + 1) ⊎ (n ≤ k)
last_or n k h = by (n == k + 1) refl
  where
    by : (b : Bool) → (n == k + 1) ≡ b → (n ≡ k + 1) ⊎ (n ≤ k)
    by true e = inl (eqb→eq n (k + 1) (subst T (sym e) tt))
    by false e = inr (grind (arith, h, e))

pub pruned_step : (keep : Version → Bool) (recents : Recents) (from k : ℕ) (old mid : Chains) → IsPruned keep recents from k old mid
    → IsPruned keep recents from (k + 1) old (pruned_all keep mid (keys_at recents (k + 1)))
pruned_step keep recents from k old mid h = λ key. by key (has_key (keys_at recents (k + 1)) key) refl (h key)
  where
    after : (key : List ℕ) (b : Bool) → has_key (keys_at recents (k + 1)) key ≡ b
        → chain_of (pruned_all keep mid (keys_at recents (k + 1))) key ≡ (if b then filter keep (chain_of mid key) else chain_of mid key)
    after key b e = chain-pruned_all keep mid (keys_at recents (k + 1)) key ∙ ap (λ c. if c then filter keep (chain_of mid key) else chain_of mid key) e

    by : (key : List ℕ) (b : Bool) → has_key (keys_at recents (k + 1)) key ≡ b
        → (chain_of mid key ≡ filter keep (chain_of old key)) ⊎ ((chain_of mid key ≡ chain_of old key) × ((n : ℕ) → from < n → n ≤ k → has_key (keys_at recents n) key ≡ false))
        → (chain_of (pruned_all keep mid (keys_at recents (k + 1))) key ≡ filter keep (chain_of old key))
        ⊎ ((chain_of (pruned_all keep mid (keys_at recents (k + 1))) key ≡ chain_of old key) × ((n : ℕ) → from < n → n ≤ k + 1 → has_key (keys_at recents n) key ≡ false))
    by key true e (inl f) = inl (after key true e ∙ ap (filter keep) f ∙ filter-twice keep (chain_of old key))
    by key true e (inr f) = inl (after key true e ∙ ap (filter keep) f.0)
    by key false e (inl f) = inl (after key false e ∙ f)
    by key false e (inr f) = inr (after key false e ∙ f.0, λ n a b. here key n e f.1 a (last_or n k b))
      where
        here : (key : List ℕ) (n : ℕ) → has_key (keys_at recents (k + 1)) key ≡ false → ((n : ℕ) → from < n → n ≤ k → has_key (keys_at recents n) key ≡ false) → from < n → (n ≡ k + 1) ⊎ (n ≤ k) → has_key (keys_at recents n) key ≡ false
        here key n e f a (inl y) = ap (λ j. has_key (keys_at recents j) key) y ∙ e
        here key n e f a (inr y) = f n a y

pub pruned_end : (keep : Version → Bool) (recents : Recents) (from k to : ℕ) (old new : Chains) → to ≤ k → IsPruned keep recents from k old new → IsPruned keep recents from to old new
pruned_end keep recents from k to old new h p = λ key. by key (p key)
  where
    by : (key : List ℕ) → (chain_of new key ≡ filter keep (chain_of old key)) ⊎ ((chain_of new key ≡ chain_of old key) × ((n : ℕ) → from < n → n ≤ k → has_key (keys_at recents n) key ≡ false))
        → (chain_of new key ≡ filter keep (chain_of old key)) ⊎ ((chain_of new key ≡ chain_of old key) × ((n : ℕ) → from < n → n ≤ to → has_key (keys_at recents n) key ≡ false))
    by key (inl e) = inl e
    by key (inr e) = inr (e.0, λ n a b. e.1 n a (omega (arith, b, h)))

pub left_step : (keep : Version → Bool) (recents : Recents) (from to k : ℕ) (old mid : Chains) → from ≤ k → k < to → AreLeft recents from to old mid
    → AreLeft recents from to old (pruned_all keep mid (keys_at recents (k + 1)))
left_step keep recents from to k old mid a b h = λ key none.
    chain-pruned_all keep mid (keys_at recents (k + 1)) key
    ∙ ap (λ c. if c then filter keep (chain_of mid key) else chain_of mid key) (none (k + 1) (omega (arith, a)) (omega (arith, b)))
    ∙ h key none

-- ---- changes of an install
abbrev pub fresh : ℕ → Option (List ℕ) → Version
fresh n value = record { written = n; overwritten = None; value = value }

-- the versions after some changes of the install, by the last one of the key
abbrev pub after_change : (Version → Bool) → ℕ → List Version → List Version → Option (Option (List ℕ)) → List Version
after_change keep n old all None = old
after_change keep n old all (Some value) = filter keep (fresh n value ∷ closed n all)

later-later : {X : Type 0} (a o : Option X) (x : X) → later (later a (Some x)) o ≡ later a (Some x)
later-later None o x = refl
later-later (Some y) o x = refl

later-none : {X : Type 0} (a o : Option X) → later (later a None) o ≡ later a o
later-none None o = refl
later-none (Some y) o = refl

changed_at : (keep : Version → Bool) (n : ℕ) (m : Chains) (w : Written) (q : List ℕ) (b : Bool) → same_key w.key q ≡ b
    → chain_of (rewritten keep n m w.key w.value) q ≡ cond b (with_write keep n w.value (chain_of m w.key)) (chain_of m q)
changed_at keep n m w q b t = chain-laid m w.key _ q ∙ ap (λ c. cond c (with_write keep n w.value (chain_of m w.key)) (chain_of m q)) (key_symm q w.key ∙ t)

rewritten_step : (keep : Version → Bool) (n : ℕ) (old all : List Version) (q : List ℕ)
    → ((o : Option (Option (List ℕ))) (value : Option (List ℕ)) → with_write keep n value (after_change keep n old all o) ≡ filter keep (fresh n value ∷ closed n all))
    → (m : Chains) (w : Written) (ws : List Written) (o : Option (Option (List ℕ))) → chain_of m q ≡ after_change keep n old all o
    → ((o : Option (Option (List ℕ))) → chain_of (rewritten keep n m w.key w.value) q ≡ after_change keep n old all o
    → chain_of (rewritten_all keep n (rewritten keep n m w.key w.value) ws) q ≡ after_change keep n old all (later (last_change ws q) o))
    → (b : Bool) → same_key w.key q ≡ b
    → chain_of (rewritten_all keep n (rewritten keep n m w.key w.value) ws) q ≡ after_change keep n old all (later (later (last_change ws q) (if b then Some w.value else None)) o)
rewritten_step keep n old all q again m w ws o is rest true t =
    rest (Some w.value)
    (changed_at keep n m w q true t ∙ ap (λ k. with_write keep n w.value (chain_of m k)) (same_keys w.key q t) ∙ ap (with_write keep n w.value) is ∙ again o w.value)
    ∙ ap (after_change keep n old all) (sym (later-later (last_change ws q) o w.value))
rewritten_step keep n old all q again m w ws o is rest false t =
    rest o (changed_at keep n m w q false t ∙ is) ∙ ap (after_change keep n old all) (sym (later-none (last_change ws q) o))

pub chain-rewritten_all : (keep : Version → Bool) (n : ℕ) (old all : List Version) (q : List ℕ)
    → ((o : Option (Option (List ℕ))) (value : Option (List ℕ)) → with_write keep n value (after_change keep n old all o) ≡ filter keep (fresh n value ∷ closed n all))
    → (m : Chains) (ws : List Written) (o : Option (Option (List ℕ))) → chain_of m q ≡ after_change keep n old all o → chain_of (rewritten_all keep n m ws) q ≡ after_change keep n old all (later (last_change ws q) o)
chain-rewritten_all keep n old all q again m [] o is = is
chain-rewritten_all keep n old all q again m (w ∷ ws) o is =
    rewritten_step keep n old all q again m w ws o is (chain-rewritten_all keep n old all q again (rewritten keep n m w.key w.value) ws) (same_key w.key q) refl
