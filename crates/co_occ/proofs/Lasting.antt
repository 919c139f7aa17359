-- The last install of each key, as installs come and go.
use Rattle.std.proofs.Common.{◌≡◌, ◌≢◌, ℕ, ◌+◌, ◌-◌, ◌<◌, ◌≤◌, nat_lt, Bool, true, false, cond, ◌&&◌, ◌||◌, List, [], ◌∷◌, ◌++◌, map, filter, take, drop, length, reverse, if◌then◌else◌, Option, None, Some, refl, sym, ap, ◌∙◌, subst, eq-eqb, eqb→eq, T, arith, suc}
use Rattle.std.specs.Prelude.{◌==◌}
use Rattle.std.proofs.lemmas.Bool.Decides.{nat_tests}
use Rattle.std.proofs.lemmas.Cmp.{nat_list_cmp_total}
use Rattle.std.proofs.lemmas.List.{length-reverse, length_push, reverse-append}
use Rattle.std.specs.FinMap.{empty, get-empty, entries, entries_sorted, get, insert, remove, get-entries, get-insert, get-remove}
use Rattle.co_base.specs.Order.{key_cmp}
use Rattle.co_base.specs.Span.{span_has}
use Rattle.co_base.specs.declared.written.Written.{Written}
use Rattle.co_state.specs.Keys.{same_key, writes_key, least_key}
use Rattle.co_index.specs.Listed.{has_key, keys_that}
use Rattle.co_pairs.proofs.Picking.{passes}
use Rattle.co_index.proofs.Keys.{ties, tied, swapped}
use Rattle.co_index.proofs.Least.{least_same}
use Rattle.co_index.proofs.Listed.{has-append, has-filter, has-that-within}
use Rattle.co_occ.specs.declared.reads.Read.{Read}
use Rattle.co_occ.specs.Last.{Lasts, noted, is_last, forgotten_at, forgotten, last_of, AreLast, keys_after}
use Rattle.co_occ.specs.Unseen.{keys_written, keys_unseen, keys_overwritten}
use Rattle.co_occ.proofs.Unseeing.{take_none}

pub none_last : AreLast empty [] 0
none_last = record { fit = omega arith; each = λ q. get-empty key_cmp q }

-- ---- an install
noted_step : (a b : Bool) (x o : Option ℕ) → (if b then x else cond a x o) ≡ (if a || b then x else o)
noted_step true true x o = refl
noted_step true false x o = refl
noted_step false b x o = refl

get-noted : (m : Lasts) (ws : List Written) (n : ℕ) (q : List ℕ) → get (noted m ws n) q ≡ (if writes_key ws q then Some n else get m q)
get-noted m [] n q = refl
get-noted m (w ∷ ws) n q =
    get-noted (insert m w.key n) ws n q
    ∙ ap (λ o. if writes_key ws q then Some n else o) (get-insert nat_list_cmp_total m w.key n q)
    ∙ noted_step (ties q w.key) (writes_key ws q) (Some n) (get m q)
    ∙ ap (λ b. if b || writes_key ws q then Some n else get m q) (swapped q w.key)

pub are_noted : (m : Lasts) (old : List (List Written)) (n : ℕ) (ws : List Written) → AreLast m old n → AreLast (noted m ws (n + 1)) (old ++ ws ∷ []) (n + 1)
are_noted m old n ws a = record {
  fit = let f = a.fit in omega (arith, f, length_push old ws);
  each = λ q.
      get-noted m ws (n + 1) q
      ∙ ap (λ o. if writes_key ws q then Some (n + 1) else o) (a.each q ∙ ap (λ k. last_of (reverse old) k q) (let e : n ≡ n + 1 - 1 = omega arith in e))
      ∙ ap (λ wss. last_of wss (n + 1) q) (sym (reverse-append old (ws ∷ [])));
}

-- ---- a write set is forgotten
and-false : (b : Bool) → (b && false) ≡ false
and-false true = refl
and-false false = refl

none_either : (b : Bool) → ◌≡◌ {A = Option ℕ} (if b then None else None) None
none_either true = refl
none_either false = refl

at_step : (m : Lasts) (key : List ℕ) (n : ℕ) (q : List ℕ) (b c : Bool) → is_last (get m key) n ≡ b → ties q key ≡ c → get (if b then remove m key else m) q ≡ (if c && is_last (get m q) n then None else get m q)
at_step m key n q true true e f =
    get-remove nat_list_cmp_total m key q ∙ ap (λ x. cond x None (get m q)) f ∙ sym (ap (λ x. if x then None else get m q) (ap (λ k. is_last (get m k) n) (tied q key f) ∙ e))
at_step m key n q true false e f = get-remove nat_list_cmp_total m key q ∙ ap (λ x. cond x None (get m q)) f
at_step m key n q false true e f = sym (ap (λ x. if x then None else get m q) (ap (λ k. is_last (get m k) n) (tied q key f) ∙ e))
at_step m key n q false false e f = refl

get-forgotten_at : (m : Lasts) (key : List ℕ) (n : ℕ) (q : List ℕ) → get (forgotten_at m key n) q ≡ (if ties q key && is_last (get m q) n then None else get m q)
get-forgotten_at m key n q = at_step m key n q (is_last (get m key) n) (ties q key) refl refl

two_step : (a b l : Bool) (o : Option ℕ) (f : Option ℕ → Bool) → f o ≡ l → f None ≡ false
    → (if b && f (if a && f o then None else o) then None else (if a && f o then None else o)) ≡ (if (a || b) && f o then None else o)
two_step false b l o f e z = refl
two_step true b true o f e z =
    (λ i. if b && f (if e i then None else o) then None else (if e i then None else o)) ∙ none_either (b && f None) ∙ sym (ap (λ c. if c then None else o) e)
two_step true b false o f e z =
    (λ i. if b && f (if e i then None else o) then None else (if e i then None else o))
    ∙ ap (λ c. if b && c then None else o) e ∙ ap (λ c. if c then None else o) (and-false b) ∙ sym (ap (λ c. if c then None else o) e)

get-forgotten : (m : Lasts) (ws : List Written) (n : ℕ) (q : List ℕ) → get (forgotten m ws n) q ≡ (if writes_key ws q && is_last (get m q) n then None else get m q)
get-forgotten m [] n q = refl
get-forgotten m (w ∷ ws) n q =
    get-forgotten (forgotten_at m w.key n) ws n q
    ∙ ap (λ o. if writes_key ws q && is_last o n then None else o) (get-forgotten_at m w.key n q)
    ∙ two_step (ties q w.key) (writes_key ws q) (is_last (get m q) n) (get m q) (λ o. is_last o n) refl refl
    ∙ ap (λ b. if (b || writes_key ws q) && is_last (get m q) n then None else get m q) (swapped q w.key)

-- the oldest of some installs
abbrev or_last : Option ℕ → Option ℕ → Option ℕ
or_last None o = o
or_last (Some m) o = Some m

end_step : (b : Bool) (n : ℕ) (o rest more : Option ℕ) → rest ≡ or_last o more → (if b then Some n else rest) ≡ or_last (if b then Some n else o) more
end_step true n o rest more e = refl
end_step false n o rest more e = e

last-end : (xs : List (List Written)) (ws : List Written) (n : ℕ) (q : List ℕ) → last_of (xs ++ ws ∷ []) n q ≡ or_last (last_of xs n q) (if writes_key ws q then Some (n - length xs) else None)
last-end [] ws n q = ap (λ k. if writes_key ws q then Some k else None) (let e : n ≡ n - 0 = omega arith in e)
last-end (x ∷ xs) ws n q =
    end_step (writes_key x q) n (last_of xs (n - 1) q) (last_of (xs ++ ws ∷ []) (n - 1) q) (if writes_key ws q then Some (n - length (x ∷ xs)) else None)
    (last-end xs ws (n - 1) q ∙ ap (λ k. or_last (last_of xs (n - 1) q) (if writes_key ws q then Some k else None)) (let e : n - 1 - length xs ≡ n - length (x ∷ xs) = omega arith in e))

some_same : (m n : ℕ) → Some m ≡ Some n → m ≡ n
some_same m n e = cc

last-bound : (xs : List (List Written)) (n m : ℕ) (q : List ℕ) → length xs ≤ n → last_of xs n q ≡ Some m → n < m + length xs
last-bound [] n m q f h = absurd (let g : None ≡ Some m = h in cc)
last-bound (x ∷ xs) n m q f h = by (writes_key x q) h (last-bound xs (n - 1) m q (omega (arith, f)))
  where
    by : (b : Bool) → (if b then Some n else last_of xs (n - 1) q) ≡ Some m → (last_of xs (n - 1) q ≡ Some m → n - 1 < m + length xs) → n < m + length (x ∷ xs)
    by true e next = let g = some_same n m e in omega (arith, g)
    by false e next = let g = next e in omega (arith, g, f)

gone_step : (w : Bool) (k : ℕ) (o : Option ℕ) → ((m : ℕ) → o ≡ Some m → (m == k) ≡ false)
    → (if w && is_last (or_last o (if w then Some k else None)) k then None else or_last o (if w then Some k else None)) ≡ o
gone_step true k None far = ap (λ b. if b then None else Some k) (eq-eqb k k refl)
gone_step false k None far = refl
gone_step w k (Some m) far = ap (λ b. if b then None else Some m) (ap (λ b. w && b) (far m refl) ∙ and-false w)

pub are_forgotten : (m : Lasts) (ws : List Written) (old : List (List Written)) (n k : ℕ) → AreLast m (ws ∷ old) n → k ≡ n - length old → AreLast (forgotten m ws k) old n
are_forgotten m ws old n k a e = record {
  fit = let f = a.fit in omega (arith, f);
  each = λ q.
      let was : get m q ≡ or_last (last_of (reverse old) n q) (if writes_key ws q then Some k else None) =
      a.each q ∙ ap (λ wss. last_of wss n q) (reverse-append (ws ∷ []) old) ∙ last-end (reverse old) ws n q
      ∙ ap (λ j. or_last (last_of (reverse old) n q) (if writes_key ws q then Some j else None)) (ap (λ l. n - l) (length-reverse old) ∙ sym e) in
      get-forgotten m ws k q
      ∙ ap (λ o. if writes_key ws q && is_last o k then None else o) was
      ∙ gone_step (writes_key ws q) k (last_of (reverse old) n q) (far q);
}
  where
    unequal : (i j : ℕ) (b : Bool) → (i == j) ≡ b → i ≢ j → (i == j) ≡ false
    unequal i j true h d = absurd (d (eqb→eq i j (subst T (sym h) tt)))
    unequal i j false h d = h

    far : (q : List ℕ) (i : ℕ) → last_of (reverse old) n q ≡ Some i → (i == k) ≡ false
    far q i h =
        let f = a.fit in
        let r = length-reverse old in
        let b : n < i + length (reverse old) = last-bound (reverse old) n i q (omega (arith, f, r)) h in
        unequal i k (i == k) refl (λ s. omega (arith, b, r, e, s, f))

-- as many are left as were to be left
pub front_left : (ws : List Written) (old was : List (List Written)) (count : ℕ) → was ≡ ws ∷ old → count < length was → drop (length old - count) old ≡ drop (length was - count) was
front_left ws old was count e h =
    let l = ap length e in
    ap (λ n. drop n (ws ∷ old)) (let k : suc (length old - count) ≡ suc (length old) - count = omega (arith, h, l) in k) ∙ ap (λ wss. drop (length wss - count) wss) (sym e)

-- ---- keys that were written since a read
has-keys : (ws : List Written) (q : List ℕ) → has_key (map (λ w. w.key) ws) q ≡ writes_key ws q
has-keys [] q = refl
has-keys (w ∷ ws) q = ap (λ b. same_key w.key q || b) (has-keys ws q)

since_true : (b : Bool) (n stamp : ℕ) (o : Option ℕ) → nat_lt stamp n ≡ true → (b || passes (λ m. nat_lt stamp m) o) ≡ passes (λ m. nat_lt stamp m) (if b then Some n else o)
since_true true n stamp o e = sym e
since_true false n stamp o e = refl

since_false : (b : Bool) (n stamp : ℕ) (o : Option ℕ) → nat_lt stamp n ≡ false → false ≡ passes (λ m. nat_lt stamp m) o → false ≡ passes (λ m. nat_lt stamp m) (if b then Some n else o)
since_false true n stamp o e h = sym e
since_false false n stamp o e h = h

since-last : (xs : List (List Written)) (n stamp : ℕ) (q : List ℕ) → length xs ≤ n → has_key (keys_written (take (n - stamp) xs)) q ≡ passes (λ m. nat_lt stamp m) (last_of xs n q)
since-last [] n stamp q f = ap (λ (wss : List (List Written)). has_key (keys_written wss) q) (take_none (n - stamp))
since-last (ws ∷ wss) n stamp q f = by (nat_lt stamp n) refl (since-last wss (n - 1) stamp q (omega (arith, f)))
  where
    by : (b : Bool) → nat_lt stamp n ≡ b → has_key (keys_written (take (n - 1 - stamp) wss)) q ≡ passes (λ m. nat_lt stamp m) (last_of wss (n - 1) q)
        → has_key (keys_written (take (n - stamp) (ws ∷ wss))) q ≡ passes (λ m. nat_lt stamp m) (if writes_key ws q then Some n else last_of wss (n - 1) q)
    by true e rest =
        let l : n - stamp ≡ suc (n - 1 - stamp) = grind (arith, nat_tests, e) in
        ap (λ j. has_key (keys_written (take j (ws ∷ wss))) q) l
        ∙ has-append (map (λ w. w.key) ws) (keys_written (take (n - 1 - stamp) wss)) q
        ∙ (λ i. has-keys ws q i || rest i)
        ∙ since_true (writes_key ws q) n stamp (last_of wss (n - 1) q) e
    by false e rest =
        let l : n - stamp ≡ 0 = grind (arith, nat_tests, e) in
        let m : 0 ≡ n - 1 - stamp = grind (arith, nat_tests, e) in
        ap (λ j. has_key (keys_written (take j (ws ∷ wss))) q) l
        ∙ since_false (writes_key ws q) n stamp (last_of wss (n - 1) q) e (ap (λ j. has_key (keys_written (take j wss)) q) m ∙ rest)

module _ (lasts : Lasts) (old : List (List Written)) (n : ℕ) (a : AreLast lasts old n) where
  has-after : (rs : List Read) (q : List ℕ) → has_key (keys_after (entries lasts) rs) q ≡ has_key (keys_overwritten old n rs) q
  has-after [] q = refl
  has-after (r ∷ rs) q =
      let f = a.fit in
      let l = length-reverse old in
      has-append (keys_that (λ m. nat_lt r.stamp m) (filter (λ e. span_has r.range e.0) (entries lasts))) (keys_after (entries lasts) rs) q
      ∙ (λ i. (has-that-within (λ m. nat_lt r.stamp m) r.range (entries lasts) q (entries_sorted lasts)
      ∙ ap (λ o. span_has r.range q && passes (λ m. nat_lt r.stamp m) o) (sym (get-entries lasts q) ∙ a.each q)
      ∙ ap (λ b. span_has r.range q && b) (sym (since-last (reverse old) n r.stamp q (omega (arith, f, l))))
      ∙ sym (has-filter r.range (keys_unseen old n r.stamp) q)) i || has-after rs q i)
      ∙ sym (has-append (filter (span_has r.range) (keys_unseen old n r.stamp)) (keys_overwritten old n rs) q)

  -- the least key that was read and written since
  pub least_after : (rs : List Read) → least_key (keys_after (entries lasts) rs) ≡ least_key (keys_overwritten old n rs)
  least_after rs = least_same _ _ (has-after rs)
