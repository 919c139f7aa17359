-- Lines and labels of two lists, one behind the other.
use Rattle.std.proofs.Common.{◌≡◌, ℕ, codes, List, [], ◌∷◌, ◌++◌, Option, None, Some, append-nil, refl, sym, ap, ◌∙◌, append_assoc}
use Rattle.co_svg.specs.Svg.{line_text, lines_text, label_text, labels_text, Label, Picture, svg_text, front_text, end_text, looks, attributes_text, page_attributes}
use Rattle.std.specs.Prelude.{option_to_list}
use Rattle.co_picture.specs.Picture.{option_line_text}
use Rattle.co_svg.specs.declared.shape.Line.{Line}

pub lines_behind : (xs ys : List Line) → lines_text (xs ++ ys) ≡ lines_text xs ++ lines_text ys
lines_behind [] ys = refl
lines_behind (x ∷ xs) ys = ap (λ t. line_text x ++ t) (lines_behind xs ys) ∙ sym (append_assoc (line_text x) (lines_text xs) (lines_text ys))

pub labels_behind : (xs ys : List Label) → labels_text (xs ++ ys) ≡ labels_text xs ++ labels_text ys
labels_behind [] ys = refl
labels_behind (x ∷ xs) ys = ap (λ t. label_text x ++ t) (labels_behind xs ys) ∙ sym (append_assoc (label_text x) (labels_text xs) (labels_text ys))

line_of_option : (o : Option Line) → lines_text (option_to_list o) ≡ option_line_text o
line_of_option None = refl
line_of_option (Some l) = append-nil (line_text l)

-- lines, and behind them one more, where there is one
pub lines_then : (old mid new : List ℕ) (xs : List Line) (o p : Option Line) → mid ≡ old ++ lines_text xs → o ≡ p → new ≡ mid ++ option_line_text o → new ≡ old ++ lines_text (xs ++ option_to_list p)
lines_then old mid new xs o p before same behind =
    behind ∙ ap (λ t. t ++ option_line_text o) before ∙ append_assoc old (lines_text xs) (option_line_text o)
    ∙ ap (λ l. old ++ (lines_text xs ++ option_line_text l)) same
    ∙ ap (λ t. old ++ t) (sym (lines_behind xs (option_to_list p) ∙ ap (λ t. lines_text xs ++ t) (line_of_option p)))

pub both_lines : (old mid new : List ℕ) (xs ys : List Line) → mid ≡ old ++ lines_text xs → new ≡ mid ++ lines_text ys → new ≡ old ++ lines_text (xs ++ ys)
both_lines old mid new xs ys one two =
    two ∙ ap (λ t. t ++ lines_text ys) one ∙ append_assoc old (lines_text xs) (lines_text ys) ∙ ap (λ t. old ++ t) (sym (lines_behind xs ys))

both_labels : (old mid new : List ℕ) (xs ys : List Label) → mid ≡ old ++ labels_text xs → new ≡ mid ++ labels_text ys → new ≡ old ++ labels_text (xs ++ ys)
both_labels old mid new xs ys one two =
    two ∙ ap (λ t. t ++ labels_text ys) one ∙ append_assoc old (labels_text xs) (labels_text ys) ∙ ap (λ t. old ++ t) (sym (labels_behind xs ys))

pub three_labels : (old a b new : List ℕ) (xs ys zs : List Label) → a ≡ old ++ labels_text xs → b ≡ a ++ labels_text ys → new ≡ b ++ labels_text zs → new ≡ old ++ labels_text (xs ++ (ys ++ zs))
three_labels old a b new xs ys zs one two three = both_labels old a new xs (ys ++ zs) one (both_labels a b new ys zs two three)

parts : (at looked lines labels end : List ℕ) → 60 ∷ (codes "svg" ++ (at ++ (62 ∷ ((looked ++ (lines ++ labels)) ++ end)))) ≡ ((60 ∷ (codes "svg" ++ (at ++ 62 ∷ []))) ++ looked) ++ (lines ++ (labels ++ end))
parts at looked lines labels end = simp append_assoc

regroup : (old a b c d : List ℕ) → (((old ++ a) ++ b) ++ c) ++ d ≡ old ++ (a ++ (b ++ (c ++ d)))
regroup old a b c d = simp append_assoc

-- a picture from its four parts
pub whole_picture : (old a b c new : List ℕ) (p : Picture) → a ≡ old ++ front_text p.width p.height → b ≡ a ++ lines_text p.lines → c ≡ b ++ labels_text p.labels → new ≡ c ++ end_text → new ≡ old ++ svg_text p
whole_picture old a b c new p one two three four =
    four ∙ ap (λ t. t ++ end_text) (three ∙ ap (λ t. t ++ labels_text p.labels) (two ∙ ap (λ t. t ++ lines_text p.lines) one))
    ∙ regroup old (front_text p.width p.height) (lines_text p.lines) (labels_text p.labels) end_text
    ∙ ap (λ t. old ++ t) (sym (parts (attributes_text (page_attributes p.width p.height)) looks (lines_text p.lines) (labels_text p.labels) end_text))
