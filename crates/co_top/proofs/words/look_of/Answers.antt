use Rattle.std.proofs.Common.{◌≡◌, ◌∙◌, ℕ, Bool, true, List, ◌∷◌, decimal, drop, if◌then◌else◌, sym, ap, subst, arith}
use Rattle.std.proofs.lemmas.Bool.{not-true}
use Rattle.std.specs.Ordering.{is_gt}
use Rattle.std.specs.Str.Parse.{digits_value}
use Rattle.std.specs.String.{string_bytes}
use Rattle.co_base.specs.Letters.{IsText, most_key_bytes}
use Rattle.co_base.specs.Order.{key_cmp}
use Rattle.co_schedule.specs.Places.{is_text}
use Rattle.co_schedule.proofs.Numbers.{and_true, both, value_of-decimal}
use Rattle.co_schedule.proofs.Texts.{IsText-is_text}
use Rattle.co_top.specs.Command.{AsksLook, AsksNothing, are_bounds, is_argument}
use Rattle.co_top.specs.Sights.{ask_for}
use Rattle.co_top.proofs.words.look_of.Goals as goal

pub returns-in-Some-Some : goal.returns-in-Some-Some
returns-in-Some-Some c =
    let low : List ℕ = string_bytes c.args.low.now in
    let high : List ℕ = string_bytes c.args.high.now in
    let member = c.in-Some-Some.ensures.found in
    let line = c.in-Some-Some.ensures'.found in
    let named = rw c.as_bytes-3.ensures.value at c.in-Some-Some.ensures.test in
    let numbered = rw c.as_bytes-4.ensures.value at (rw c.from.ensures at c.in-Some-Some.ensures'.test) in
    let bounds : are_bounds low high ≡ true = ap (λ l. are_bounds l high) (sym c.as_bytes.ensures.value) ∙ ap (are_bounds c.as_bytes.result.now) (sym c.as_bytes-2.ensures.value) ∙ sym c.are_bounds.ensures ∙ c.if-not-are_bounds.false in
    let one = both (is_text most_key_bytes low) _ bounds in
    let two = both (is_text most_key_bytes high) _ one.1 in
    let three = both (is_argument low) _ two.1 in
    let four = both (is_argument high) _ three.1 in
    let digits : drop 1 (string_bytes c.args.member.now) ≡ drop 1 (109 ∷ decimal c.in-Some-Some.member) = ap (drop 1) (sym c.as_bytes-3.ensures.value ∙ member.1) in
    let asked : ℕ = digits_value 10 (drop 1 (string_bytes c.args.member.now)) in
    let many : ℕ = digits_value 10 (string_bytes c.args.line.now) in
    let same : asked ≡ c.in-Some-Some.member = ap (digits_value 10) digits ∙ value_of-decimal c.in-Some-Some.member (omega (arith, member.0.1)) in
    let so_many : many ≡ c.in-Some-Some.line = ap (digits_value 10) (sym c.as_bytes-4.ensures.value ∙ line.1) ∙ value_of-decimal c.in-Some-Some.line (omega (arith, line.0.1, c.from.ensures)) in (
      ap (λ (all : Bool). if all then AsksLook (ask_for asked many low high) else AsksNothing) (and_true _ _ bounds (and_true _ _ (sym named) (sym numbered)))
          ∙ ap (λ (n : ℕ). AsksLook (ask_for n many low high)) same
          ∙ ap (λ (n : ℕ). AsksLook (ask_for c.in-Some-Some.member n low high)) so_many
          ∙ ap (λ (l : List ℕ). AsksLook (ask_for c.in-Some-Some.member c.in-Some-Some.line l high)) (sym c.as_str.ensures.value)
          ∙ ap (λ (h : List ℕ). AsksLook (ask_for c.in-Some-Some.member c.in-Some-Some.line c.as_str.result.now h)) (sym c.as_str-in-Some-Some.ensures.value),
      member.0.0,
      line.0.0,
      subst (IsText most_key_bytes) (sym c.as_str.ensures.value) (IsText-is_text most_key_bytes low one.0),
      subst (IsText most_key_bytes) (sym c.as_str-in-Some-Some.ensures.value) (IsText-is_text most_key_bytes high two.0),
      ap (λ (l : List ℕ). is_gt (key_cmp l c.as_str-in-Some-Some.result.now)) c.as_str.ensures.value ∙ ap (λ (h : List ℕ). is_gt (key_cmp low h)) c.as_str-in-Some-Some.ensures.value ∙ not-true _ four.1,
    )
