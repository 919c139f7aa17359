-- Texts of batches behind gates: what stands at their front, and that they read in one way.
use Rattle.std.proofs.Common.{◌≡◌, ◌≢◌, ℕ, ◌+◌, ◌<◌, ◌≤◌, List, [], ◌∷◌, ◌++◌, length, get_or, take, drop, refl, sym, ap, subst, ◌∙◌, append_assoc, arith, inl, inr}
use Rattle.std.specs.List.{AllByRecursion}
use Rattle.std.specs.Int.{w32, from_be_bytes, to_be_bytes}
use Rattle.std.proofs.lemmas.Bool.{cases_lt}
use Rattle.std.proofs.lemmas.List.{append-nil, take_at, drop_at, drop_more}
use Rattle.std.proofs.lemmas.Nat.{from_be_bytes-to_be_bytes_4}
use Rattle.co_frame.specs.LogText.{IsBatch, IsLogText, HasBatch, IsBrokenAt, GateWalk, HasPassed, gated, batch_text, open_gate}

-- a text of batches and more has more than one byte
pub nothing : (batches : List (List ℕ)) (more : List ℕ) → length (gated batches ++ more) ≤ 1 → batches ≡ []
nothing [] more h = refl
nothing (b ∷ bs) more h = absurd (omega arith)

-- behind batches stands a gate, so at the front does one
first_gate : (batches : List (List ℕ)) (gate : ℕ) (rest : List ℕ) → (first : ℕ) × (more : List ℕ) × (gated batches ++ gate ∷ rest ≡ first ∷ more)
first_gate [] gate rest = (gate, rest, refl)
first_gate (b ∷ bs) gate rest = (open_gate, batch_text b ++ gated bs ++ gate ∷ rest, refl)

pub each_more : (batches : List (List ℕ)) (records : List ℕ) → AllByRecursion IsBatch batches → IsBatch records → AllByRecursion IsBatch (batches ++ records ∷ [])
each_more [] records each one = (one, tt)
each_more (b ∷ bs) records each one = (each.0, each_more bs records each.1 one)

pub gated_more : (batches : List (List ℕ)) (records more : List ℕ) → gated (batches ++ records ∷ []) ++ more ≡ gated batches ++ open_gate ∷ (batch_text records ++ more)
gated_more [] records more = ap (λ (x : List ℕ). x ++ more) (append-nil (open_gate ∷ batch_text records))
gated_more (b ∷ bs) records more =
    append_assoc (open_gate ∷ batch_text b) (gated (bs ++ records ∷ [])) more
    ∙ ap (λ (x : List ℕ). (open_gate ∷ batch_text b) ++ x) (gated_more bs records more)
    ∙ sym (append_assoc (open_gate ∷ batch_text b) (gated bs) (open_gate ∷ (batch_text records ++ more)))

-- a batch stands at the front in one way
front_is_one : (x y a b : List ℕ) → IsBatch x → IsBatch y → batch_text x ++ a ≡ batch_text y ++ b → (x ≡ y) × (a ≡ b)
front_is_one x y a b fx fy e =
    let digits : to_be_bytes w32 (length x) ≡ to_be_bytes w32 (length y) = ap (take 4) e in
    let len : length x ≡ length y = sym (from_be_bytes-to_be_bytes_4 (length x) fx.1) ∙ ap (from_be_bytes w32) digits ∙ from_be_bytes-to_be_bytes_4 (length y) fy.1 in
    let rest : x ++ a ≡ y ++ b = ap (drop 4) e in (
      sym (take_at x a (length x) refl) ∙ ap (take (length x)) rest ∙ take_at y b (length x) (sym len),
      sym (drop_at x a (length x) refl) ∙ ap (drop (length x)) rest ∙ drop_at y b (length x) (sym len),
    )

tails : (x y : ℕ) (a b : List ℕ) → x ∷ a ≡ y ∷ b → (x ≡ y) × (a ≡ b)
tails x y a b e = (cc, cc)

step : (x y : List ℕ) (xs ys : List (List ℕ)) (a b : List ℕ) → IsBatch x → IsBatch y → gated (x ∷ xs) ++ a ≡ gated (y ∷ ys) ++ b → (x ≡ y) × (gated xs ++ a ≡ gated ys ++ b)
step x y xs ys a b fx fy e =
    let e' : open_gate ∷ (batch_text x ++ (gated xs ++ a)) ≡ open_gate ∷ (batch_text y ++ (gated ys ++ b)) = sym (append_assoc (open_gate ∷ batch_text x) (gated xs) a) ∙ e ∙ append_assoc (open_gate ∷ batch_text y) (gated ys) b in
    front_is_one x y (gated xs ++ a) (gated ys ++ b) fx fy (tails open_gate open_gate (batch_text x ++ (gated xs ++ a)) (batch_text y ++ (gated ys ++ b)) e').1

-- the same bytes are the same batches
pub same_batches : (xs ys : List (List ℕ)) (g h : ℕ) (r s : List ℕ) → AllByRecursion IsBatch xs → AllByRecursion IsBatch ys → g ≢ open_gate → h ≢ open_gate → gated xs ++ g ∷ r ≡ gated ys ++ h ∷ s → xs ≡ ys
same_batches [] [] g h r s ex ey cg ch e = refl
same_batches [] (y ∷ ys) g h r s ex ey cg ch e = absurd (cg (tails g open_gate r (batch_text y ++ gated ys ++ h ∷ s) e).0)
same_batches (x ∷ xs) [] g h r s ex ey cg ch e = absurd (ch (sym (tails open_gate h (batch_text x ++ gated xs ++ g ∷ r) s e).0))
same_batches (x ∷ xs) (y ∷ ys) g h r s ex ey cg ch e =
    let both = step x y xs ys (g ∷ r) (h ∷ s) ex.0 ey.0 e in
    let more : xs ≡ ys = same_batches xs ys g h r s ex.1 ey.1 cg ch both.1 in
    ap (λ (b : List ℕ). b ∷ xs) both.0 ∙ ap (λ (bs : List (List ℕ)). y ∷ bs) more

-- a text that ends at a gate that is not open has a whole batch and a gate behind each open one
has_batch : (x : List ℕ) (xs : List (List ℕ)) (g : ℕ) (r behind : List ℕ) → IsBatch x → gated (x ∷ xs) ++ g ∷ r ≡ open_gate ∷ behind → HasBatch behind
has_batch x xs g r behind fx e =
    let first = first_gate xs g r in
    let e' : open_gate ∷ (batch_text x ++ (gated xs ++ g ∷ r)) ≡ open_gate ∷ behind = sym (append_assoc (open_gate ∷ batch_text x) (gated xs) (g ∷ r)) ∙ e in
    record { records = x; batch = fx; gate = first.0; rest = first.1; text = sym (tails open_gate open_gate (batch_text x ++ (gated xs ++ g ∷ r)) behind e').1 ∙ ap (λ (z : List ℕ). batch_text x ++ z) first.2 }

pub not_both : (xs ys : List (List ℕ)) (g : ℕ) (r behind : List ℕ) → AllByRecursion IsBatch xs → AllByRecursion IsBatch ys → g ≢ open_gate → ¬ (HasBatch behind) → gated xs ++ g ∷ r ≡ gated ys ++ open_gate ∷ behind → ⊥
not_both [] [] g r behind ex ey cg broken e = cg (tails g open_gate r behind e).0
not_both [] (y ∷ ys) g r behind ex ey cg broken e = cg (tails g open_gate r (batch_text y ++ gated ys ++ open_gate ∷ behind) e).0
not_both (x ∷ xs) [] g r behind ex ey cg broken e = broken (has_batch x xs g r behind ex.0 e)
not_both (x ∷ xs) (y ∷ ys) g r behind ex ey cg broken e = not_both xs ys g r behind ex.1 ey.1 cg broken (step x y xs ys (g ∷ r) (open_gate ∷ behind) ex.0 ey.0 e).1

pub same_break : (xs ys : List (List ℕ)) (this that : List ℕ) → AllByRecursion IsBatch xs → AllByRecursion IsBatch ys → ¬ (HasBatch this) → ¬ (HasBatch that) → gated xs ++ open_gate ∷ this ≡ gated ys ++ open_gate ∷ that → xs ≡ ys
same_break [] [] this that ex ey bx by' e = refl
same_break [] (y ∷ ys) this that ex ey bx by' e = absurd (bx (has_batch y ys open_gate that this ey.0 (sym e)))
same_break (x ∷ xs) [] this that ex ey bx by' e = absurd (by' (has_batch x xs open_gate this that ex.0 e))
same_break (x ∷ xs) (y ∷ ys) this that ex ey bx by' e =
    let both = step x y xs ys (open_gate ∷ this) (open_gate ∷ that) ex.0 ey.0 e in
    let more : xs ≡ ys = same_break xs ys this that ex.1 ey.1 bx by' both.1 in
    ap (λ (b : List ℕ). b ∷ xs) both.0 ∙ ap (λ (bs : List (List ℕ)). y ∷ bs) more

-- ---- laws

-- whatever stands behind a gate that is not open
pub hides : (batches : List (List ℕ)) (gate : ℕ) (rest : List ℕ) → AllByRecursion IsBatch batches → gate ≢ open_gate → IsLogText (gated batches ++ gate ∷ rest) batches
hides batches gate rest each closed =
    elim (cases_lt 1 (length (gated batches ++ gate ∷ rest))) [
      | inl lt ↦ inr (lt, record { each = each; gate = gate; rest = rest; closed = closed; text = refl })
      | inr le ↦ inl (le, nothing batches (gate ∷ rest) le)
    ]

-- a gate that is opened
pub adds : (batches : List (List ℕ)) (records : List ℕ) (gate : ℕ) (rest : List ℕ) → AllByRecursion IsBatch batches → IsBatch records → gate ≢ open_gate → IsLogText (gated batches ++ open_gate ∷ (batch_text records ++ gate ∷ rest)) (batches ++ records ∷ [])
adds batches records gate rest each one closed =
    subst (λ (text : List ℕ). IsLogText text (batches ++ records ∷ [])) (gated_more batches records (gate ∷ rest)) (hides (batches ++ records ∷ []) gate rest (each_more batches records each one) closed)

-- a log text reads in one way
pub reads_once : (bytes : List ℕ) (these those : List (List ℕ)) → IsLogText bytes these → IsLogText bytes those → these ≡ those
reads_once bytes these those this that =
    elim this [
      | inl a ↦ elim that [ inl b ↦ a.1 ∙ sym b.1 | inr b ↦ absurd (omega (arith, a.0, b.0)) ]
      | inr a ↦ elim that [
        | inl b ↦ absurd (omega (arith, a.0, b.0))
        | inr b ↦ same_batches these those a.1.gate b.1.gate a.1.rest b.1.rest a.1.each b.1.each a.1.closed b.1.closed (sym a.1.text ∙ b.1.text)
      ]
    ]

pub breaks_once : (bytes : List ℕ) (this that : ℕ) → IsBrokenAt bytes this → IsBrokenAt bytes that → this ≡ that
breaks_once bytes this that a b =
    a.place ∙ ap (λ (batches : List (List ℕ)). length (gated batches)) (same_break a.batches b.batches a.behind.behind b.behind.behind a.behind.each b.behind.each a.behind.broken b.behind.broken (sym a.behind.text ∙ b.behind.text)) ∙ sym b.place

pub reads_or_breaks : (bytes : List ℕ) (batches : List (List ℕ)) (at : ℕ) → IsLogText bytes batches → IsBrokenAt bytes at → ⊥
reads_or_breaks bytes batches at this that =
    elim this [
      | inl a ↦ omega (arith, a.0, that.made)
      | inr a ↦ not_both batches that.batches a.1.gate a.1.rest that.behind.behind a.1.each that.behind.each a.1.closed that.behind.broken (sym a.1.text ∙ that.behind.text)
    ]

-- ---- steps of a walk

pub ends_short : (walk : GateWalk) (batches : List (List ℕ)) → HasPassed walk batches → length walk.source ≤ 1 → IsLogText walk.source batches
ends_short walk batches passed short = inl (short, nothing batches (drop walk.at walk.source) (subst (λ (t : List ℕ). length t ≤ 1) passed.text short))

at_gate : (walk : GateWalk) (batches : List (List ℕ)) → HasPassed walk batches → walk.at < length walk.source → walk.source ≡ gated batches ++ get_or walk.source walk.at 0 ∷ drop (walk.at + 1) walk.source
at_gate walk batches passed within = passed.text ∙ ap (λ (t : List ℕ). gated batches ++ t) (drop_more walk.source walk.at 0 within)

pub ends_closed : (walk : GateWalk) (batches : List (List ℕ)) → HasPassed walk batches → 1 < length walk.source → walk.at < length walk.source → get_or walk.source walk.at 0 ≢ open_gate → IsLogText walk.source batches
ends_closed walk batches passed long within closed =
    inr (long, record { each = passed.each; gate = get_or walk.source walk.at 0; rest = drop (walk.at + 1) walk.source; closed = closed; text = at_gate walk batches passed within })

at_open_gate : (walk : GateWalk) (batches : List (List ℕ)) → HasPassed walk batches → walk.at < length walk.source → get_or walk.source walk.at 0 ≡ open_gate → walk.source ≡ gated batches ++ open_gate ∷ drop (walk.at + 1) walk.source
at_open_gate walk batches passed within opened = at_gate walk batches passed within ∙ ap (λ (g : ℕ). gated batches ++ g ∷ drop (walk.at + 1) walk.source) opened

pub breaks : (walk : GateWalk) (batches : List (List ℕ)) → HasPassed walk batches → 1 < length walk.source → walk.at < length walk.source → get_or walk.source walk.at 0 ≡ open_gate → ¬ (HasBatch (drop (walk.at + 1) walk.source)) → IsBrokenAt walk.source walk.at
breaks walk batches passed long within opened broken =
    record { made = long; batches = batches; behind = record { each = passed.each; behind = drop (walk.at + 1) walk.source; text = at_open_gate walk batches passed within opened; broken = broken }; place = passed.place }

first_ones : (xs ys : List (List ℕ)) (g : ℕ) (r tail : List ℕ) → AllByRecursion IsBatch xs → AllByRecursion IsBatch ys → g ≢ open_gate → gated xs ++ tail ≡ gated ys ++ g ∷ r → (more : List (List ℕ)) × (ys ≡ xs ++ more)
first_ones [] ys g r tail ex ey cg e = (ys, refl)
first_ones (x ∷ xs) [] g r tail ex ey cg e = absurd (cg (sym (tails open_gate g (batch_text x ++ gated xs ++ tail) r e).0))
first_ones (x ∷ xs) (y ∷ ys) g r tail ex ey cg e =
    let both = step x y xs ys tail (g ∷ r) ex.0 ey.0 e in
    let more = first_ones xs ys g r tail ex.1 ey.1 cg both.1 in
    (more.0, ap (λ (b : List ℕ). b ∷ ys) (sym both.0) ∙ ap (λ (bs : List (List ℕ)). x ∷ bs) more.1)

-- what was passed comes first
pub passed_first : (walk : GateWalk) (passed batches : List (List ℕ)) → HasPassed walk passed → IsLogText walk.source batches → (more : List (List ℕ)) × (batches ≡ passed ++ more)
passed_first walk passed batches p text =
    elim text [
      | inl a ↦ ([], a.1 ∙ sym (append-nil passed ∙ nothing passed (drop walk.at walk.source) (subst (λ (t : List ℕ). length t ≤ 1) p.text a.0)))
      | inr a ↦ first_ones passed batches a.1.gate a.1.rest (drop walk.at walk.source) p.each a.1.each a.1.closed (sym p.text ∙ a.1.text)
    ]
