-- The oldest read of the active transactions, as transactions come and go.
use Rattle.std.proofs.Common.{◌≡◌, ℕ, ◌+◌, ◌-◌, ◌≤◌, Bool, true, false, cond, List, [], ◌∷◌, ◌++◌, length, drop, min, nat_le, Option, None, Some, refl, sym, ap, ◌∙◌, arith}
use Rattle.std.proofs.lemmas.Bool.Decides.{nat_tests}
use Rattle.std.proofs.lemmas.List.{drop-drop, drop_all, length-drop, drop-append-le, length_push}
use Rattle.std.specs.Ordering.{nat_cmp, eq_by_cmp, is_eq}
use Rattle.std.specs.declared.cmp.Ordering.{Ordering}
use Rattle.std.specs.declared.cmp.Ordering.TheVariants.{Less, Equal, Greater}
use Rattle.std.specs.Cmp.{nat_cmp_total, eq_by_cmp_equiv}
use Rattle.std.specs.FinMap.{entries, entries-insert, get-entries}
use Rattle.std.specs.FinMap.Entries.{find, by_order}
use Rattle.std.specs.FinMap.Entries as placed
use Rattle.std.specs.Option.{option_map}
use Rattle.co_base.specs.Span.{Span}
use Rattle.co_base.specs.declared.written.Written.{Written}
use Rattle.co_state.specs.declared.engine_state.Operation.{Operation}
use Rattle.co_state.specs.Changes.{span_read}
use Rattle.co_state.specs.EngineState.{operations_in}
use Rattle.co_state.specs.Table.{Table, look, put, without, lesser}
use Rattle.co_state.proofs.Tables.{look-put, look-without, put-without, same_table}
use Rattle.co_pairs.proofs.Picking.{tied}
use Rattle.co_engine.proofs.Mapped.{mapped, table-mapped}
use Rattle.co_occ.specs.declared.reads.Reads.{Reads}
use Rattle.co_occ.specs.Kept.{with_read, reads_of, oldest_kept}
use Rattle.co_occ.specs.Old.{with_stamp, oldest_stamp, oldest_of, writes_after}
use Rattle.co_occ.specs.Stands.{count_after}

-- ---- the lesser of two
pub lesser-none : (a : Option ℕ) → lesser a None ≡ a
lesser-none None = refl
lesser-none (Some t) = refl

pub lesser-swap : (a b : Option ℕ) → lesser a b ≡ lesser b a
lesser-swap None b = sym (lesser-none b)
lesser-swap (Some t) None = refl
lesser-swap (Some t) (Some u) = ap Some (let e : min t u ≡ min u t = omega arith in e)

pub lesser-assoc : (a b c : Option ℕ) → lesser (lesser a b) c ≡ lesser a (lesser b c)
lesser-assoc None b c = refl
lesser-assoc (Some t) None c = refl
lesser-assoc (Some t) (Some u) None = refl
lesser-assoc (Some t) (Some u) (Some v) = ap Some (let e : min (min t u) v ≡ min t (min u v) = omega arith in e)

past : (a b c : Option ℕ) → lesser a (lesser b c) ≡ lesser b (lesser a c)
past a b c = sym (lesser-assoc a b c) ∙ ap (λ x. lesser x c) (lesser-swap a b) ∙ lesser-assoc b a c

-- ---- tables
placed_at : (t : ℕ) (os : List Operation) (e : ℕ × List Operation) (es rest : List (ℕ × List Operation)) (r : Ordering) → cond (is_eq r) (Some e.1) (find nat_cmp t es) ≡ None
    → (find nat_cmp t es ≡ None → oldest_of rest ≡ lesser (oldest_stamp os) (oldest_of es))
    → oldest_of (by_order r ((t, os) ∷ e ∷ es) ((e.0, os) ∷ es) (e ∷ rest)) ≡ lesser (oldest_stamp os) (lesser (oldest_stamp e.1) (oldest_of es))
placed_at t os e es rest Less h next = refl
placed_at t os e es rest Equal h next = absurd (let g : Some e.1 ≡ None = h in cc)
placed_at t os e es rest Greater h next = ap (lesser (oldest_stamp e.1)) (next h) ∙ past (oldest_stamp e.1) (oldest_stamp os) (oldest_of es)

oldest-placed : (t : ℕ) (os : List Operation) (es : List (ℕ × List Operation)) → find nat_cmp t es ≡ None → oldest_of (placed.put nat_cmp t os es) ≡ lesser (oldest_stamp os) (oldest_of es)
oldest-placed t os [] h = refl
oldest-placed t os (e ∷ es) h = placed_at t os e es (placed.put nat_cmp t os es) (nat_cmp t e.0) h (oldest-placed t os es)

itself : (t : ℕ) → eq_by_cmp nat_cmp t t ≡ true
itself t = (eq_by_cmp_equiv nat_cmp_total).refl t

-- a transaction that is laid in
pub oldest-put : (active : Table (List Operation)) (t : ℕ) (os : List Operation) → oldest_of (entries (put active t os)) ≡ lesser (oldest_stamp os) (oldest_of (entries (without active t)))
oldest-put active t os =
    ap (λ m. oldest_of (entries m)) (sym (put-without active t os))
    ∙ ap oldest_of (entries-insert nat_cmp_total (without active t) t os)
    ∙ oldest-placed t os (entries (without active t)) (sym (get-entries (without active t) t) ∙ look-without active t t ∙ ap (λ c. cond c None (look active t)) (itself t))

cond_put : (c : Bool) (o : Option (List Operation)) (os : List Operation) → (c ≡ true → o ≡ Some os) → o ≡ cond c (Some os) o
cond_put true o os h = h refl
cond_put false o os h = refl

cond_none : (c : Bool) (o : Option (List Operation)) → (c ≡ true → o ≡ None) → o ≡ cond c None o
cond_none true o h = h refl
cond_none false o h = refl

without_at : (active : Table (List Operation)) (t : ℕ) (o : Option (List Operation)) → look active t ≡ o
    → oldest_of (entries active) ≡ lesser (oldest_stamp (operations_in o)) (oldest_of (entries (without active t)))
without_at active t None e =
    ap (λ m. oldest_of (entries m)) (same_table active (without active t) (λ u.
    cond_none (eq_by_cmp nat_cmp u t) (look active u) (λ y. ap (look active) (tied u t y) ∙ e) ∙ sym (look-without active t u)))
without_at active t (Some os) e =
    ap (λ m. oldest_of (entries m)) (same_table active (put active t os) (λ u.
    cond_put (eq_by_cmp nat_cmp u t) (look active u) os (λ y. ap (look active) (tied u t y) ∙ e) ∙ sym (look-put active t os u)))
    ∙ oldest-put active t os

-- a transaction that is taken out
pub oldest-without : (active : Table (List Operation)) (t : ℕ)
    → oldest_of (entries active) ≡ lesser (oldest_stamp (operations_in (look active t))) (oldest_of (entries (without active t)))
oldest-without active t = without_at active t (look active t) refl

-- ---- what is kept
stamps_step : (span : Option Span) (stamp : ℕ) (os : List Operation) (reads : Reads) → oldest_stamp os ≡ reads.oldest → with_stamp span stamp (oldest_stamp os) ≡ (with_read span stamp reads).oldest
stamps_step None stamp os reads e = e
stamps_step (Some span) stamp os reads e = ap (lesser (Some stamp)) e

pub stamps-reads : (os : List Operation) → oldest_stamp os ≡ (reads_of os).oldest
stamps-reads [] = refl
stamps-reads (o ∷ os) = stamps_step (span_read o.op) o.stamp os (reads_of os) (stamps-reads os)

kept-mapped : (es : List (ℕ × List Operation)) → oldest_kept (mapped reads_of es) ≡ oldest_of es
kept-mapped [] = refl
kept-mapped (e ∷ es) = (λ i. lesser (sym (stamps-reads e.1) i) (kept-mapped es i))

-- the oldest read, by what is kept
pub oldest_alike : (reads : Table Reads) (active : Table (List Operation)) → ((t : ℕ) → option_map reads_of (look active t) ≡ look reads t)
    → oldest_kept (entries reads) ≡ oldest_of (entries active)
oldest_alike reads active is = ap oldest_kept (table-mapped reads_of reads active (λ q. sym (is q))) ∙ kept-mapped (entries active)

-- ---- the write sets after it
all_kept : (wss : List (List Written)) (n : ℕ) → n ≡ 0 → drop n wss ≡ wss
all_kept wss n e = ap (λ k. drop k wss) e

read_at : (stamp : ℕ) (wss : List (List Written)) (n : ℕ) → length wss ≡ n → (b : Bool) → nat_le stamp n ≡ b → drop stamp wss ≡ drop (min n stamp) wss
read_at stamp wss n e true h = let s : stamp ≡ min n stamp = grind (arith, nat_tests, h) in ap (λ k. drop k wss) s
read_at stamp wss n e false h =
    let l : length wss ≤ stamp = grind (arith, nat_tests, h, e) in
    let m : length wss ≤ min n stamp = grind (arith, nat_tests, h, e) in
    drop_all stamp wss l ∙ sym (drop_all (min n stamp) wss m)

-- nothing to be read later needs what was installed until now
pub after_read : (o : Option ℕ) (wss : List (List Written)) (n : ℕ) → length wss ≡ n → writes_after o wss ≡ writes_after (lesser (Some n) o) wss
after_read None wss n e = sym (drop_all n wss (omega (arith, e)))
after_read (Some stamp) wss n e = read_at stamp wss n e (nat_le stamp n) refl

gone_at : (old stamp : ℕ) (wss : List (List Written)) (n l : ℕ) → length wss ≡ n → (b : Bool) → nat_le stamp n ≡ b → l ≡ length wss - min old stamp
    → drop (min old stamp + (l - (n - stamp))) wss ≡ drop stamp wss
gone_at old stamp wss n l e true h d = let s : min old stamp + (l - (n - stamp)) ≡ stamp = grind (arith, nat_tests, h, d, e) in ap (λ k. drop k wss) s
gone_at old stamp wss n l e false h d =
    let s : length wss ≤ min old stamp + (l - (n - stamp)) = grind (arith, nat_tests, h, d, e) in
    let t : length wss ≤ stamp = grind (arith, nat_tests, h, e) in
    drop_all (min old stamp + (l - (n - stamp))) wss s ∙ sym (drop_all stamp wss t)

-- an older read is gone
pub after_gone : (a o : Option ℕ) (wss : List (List Written)) (n : ℕ) → length wss ≡ n
    → drop (length (writes_after (lesser a o) wss) - count_after o n) (writes_after (lesser a o) wss) ≡ writes_after o wss
after_gone a None wss n e = drop_all (length (writes_after (lesser a None) wss) - 0) (writes_after (lesser a None) wss) (omega arith)
after_gone None (Some stamp) wss n e =
    let l : length (drop stamp wss) - (n - stamp) ≡ 0 = let d = length-drop stamp wss in omega (arith, d, e) in
    all_kept (drop stamp wss) (length (drop stamp wss) - (n - stamp)) l
after_gone (Some old) (Some stamp) wss n e =
    let d = length-drop (min old stamp) wss in
    drop-drop (length (drop (min old stamp) wss) - (n - stamp)) (min old stamp) wss
    ∙ gone_at old stamp wss n (length (drop (min old stamp) wss)) e (nat_le stamp n) refl d

install_at : (stamp : ℕ) (wss : List (List Written)) (ws : List Written) (n l : ℕ) → length wss ≡ n → (b : Bool) → nat_le stamp n ≡ b
    → l ≡ length (drop stamp wss) + 1 → length (drop stamp wss) ≡ length wss - stamp
    → drop (l - (n + 1 - stamp)) (drop stamp wss ++ ws ∷ []) ≡ drop stamp (wss ++ ws ∷ [])
install_at stamp wss ws n l e true h k d =
    let z : l - (n + 1 - stamp) ≡ 0 = grind (arith, nat_tests, h, d, e, k) in
    let s : stamp ≤ length wss = grind (arith, nat_tests, h, e) in
    all_kept (drop stamp wss ++ ws ∷ []) (l - (n + 1 - stamp)) z ∙ sym (drop-append-le stamp wss (ws ∷ []) s)
install_at stamp wss ws n l e false h k d =
    let p : length (drop stamp wss ++ ws ∷ []) ≡ length (drop stamp wss) + 1 = length_push (drop stamp wss) ws in
    let m : length (wss ++ ws ∷ []) ≡ length wss + 1 = length_push wss ws in
    let s : length (drop stamp wss ++ ws ∷ []) ≤ l - (n + 1 - stamp) = grind (arith, nat_tests, h, d, e, k, p) in
    let t : length (wss ++ ws ∷ []) ≤ stamp = grind (arith, nat_tests, h, e, m) in
    drop_all (l - (n + 1 - stamp)) (drop stamp wss ++ ws ∷ []) s ∙ sym (drop_all stamp (wss ++ ws ∷ []) t)

-- one more is installed
pub after_install : (o : Option ℕ) (wss : List (List Written)) (ws : List Written) (n : ℕ) → length wss ≡ n
    → drop (length (writes_after o wss ++ ws ∷ []) - count_after o (n + 1)) (writes_after o wss ++ ws ∷ []) ≡ writes_after o (wss ++ ws ∷ [])
after_install None wss ws n e = refl
after_install (Some stamp) wss ws n e =
    install_at stamp wss ws n (length (drop stamp wss ++ ws ∷ [])) e (nat_le stamp n) refl (length_push (drop stamp wss) ws) (length-drop stamp wss)

-- nothing is installed yet
pub after_none : (o : Option ℕ) → [] ≡ writes_after o []
after_none None = refl
after_none (Some stamp) = sym (drop_all stamp [] (omega arith))
