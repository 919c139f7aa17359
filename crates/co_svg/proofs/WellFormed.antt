-- The text of a picture is well formed.
use Rattle.std.proofs.Common.{◌≡◌, ℕ, ◌+◌, ◌-◌, ◌*◌, ◌/◌, ◌%◌, ◌<◌, ◌==◌, nat_lt, min, Bool, true, false, if◌then◌else◌, List, [], ◌∷◌, ◌++◌, length, refl, sym, ap, ◌∙◌, subst, suc, zero, append_assoc, append-nil, arith}
use Rattle.std.specs.Prelude.{decimal, codes, nat_le, not, ◌&&◌, ◌||◌}
use Rattle.std.specs.List.{list_all}
use Rattle.std.specs.Fmt.{digits, digits_onto, digit_glyph}
use Rattle.std.proofs.lemmas.Bool.Decides.{nat_tests}
use Rattle.co_svg.specs.Svg.{Attribute, attribute, number_attribute, attributes_text, element, escaped, escaped_letter, is_visible, line_text, ground_width, ground_text, letters_text, label_text, lines_text, labels_text, looks, page_attributes, front_text, svg_text, Picture, Label, stroke_word, style_word}
use Rattle.co_svg.specs.WellFormed.{AreAttributes, NoAttributes, OneAttribute, IsContent, Nothing, Letter, Reference, Element, IsReference, Ampersand, LessThan, GreaterThan, IsDocument, Document, is_value_letter, is_text_letter, is_name, is_named, is_shown}
use Rattle.co_svg.specs.declared.shape.Line.{Line}
use Rattle.co_svg.specs.declared.shape.Stroke.{Stroke}
use Rattle.co_svg.specs.declared.shape.Stroke.TheVariants as stroke
use Rattle.co_svg.specs.declared.shape.Style.{Style}
use Rattle.co_svg.specs.declared.shape.Style.TheVariants as style

-- ---- numbers

glyph_shown : (d : ℕ) → d < 10 → is_value_letter (digit_glyph false d) ≡ true
glyph_shown d small = grind (arith, nat_tests)

both : (a b : Bool) → (a && b) ≡ true → (a ≡ true) × (b ≡ true)
both true b e = (refl, e)
both false b e = absurd (let z : false ≡ true = e in cc)

and_true : (a b : Bool) → a ≡ true → b ≡ true → (a && b) ≡ true
and_true true b p q = q
and_true false b p q = p

last_digit : (n : ℕ) → n % 10 < 10
last_digit n = omega arith

onto_step : (k n : ℕ) (acc : List ℕ) (last : Bool) → list_all is_value_letter (digit_glyph false (n % 10) ∷ acc) ≡ true →
    ((m : ℕ) (more : List ℕ) → list_all is_value_letter more ≡ true → list_all is_value_letter (digits_onto k 10 false m more) ≡ true) →
    list_all is_value_letter (if last then digit_glyph false (n % 10) ∷ acc else digits_onto k 10 false (n / 10) (digit_glyph false (n % 10) ∷ acc)) ≡ true
onto_step k n acc true all more = all
onto_step k n acc false all more = more (n / 10) (digit_glyph false (n % 10) ∷ acc) all

onto_shown : (k n : ℕ) (acc : List ℕ) → list_all is_value_letter acc ≡ true → list_all is_value_letter (digits_onto k 10 false n acc) ≡ true
onto_shown zero n acc all = all
onto_shown (suc k) n acc all =
    onto_step k n acc (n / 10 == 0) (and_true (is_value_letter (digit_glyph false (n % 10))) (list_all is_value_letter acc) (glyph_shown (n % 10) (last_digit n)) all) (onto_shown k)

decimal_shown : (n : ℕ) → list_all is_value_letter (decimal n) ≡ true
unfolding digits
decimal_shown n = onto_shown 64 n [] refl

-- ---- content

content_append : (a b : List ℕ) → IsContent a → IsContent b → IsContent (a ++ b)
content_append _ b Nothing more = more
content_append _ b (Letter c rest ok inner) more = Letter c (rest ++ b) ok (content_append rest b inner more)
content_append _ b (Reference reference rest ok inner) more =
    subst IsContent (sym (append_assoc reference rest b)) (Reference reference (rest ++ b) ok (content_append rest b inner more))
content_append _ b (Element name attributes inside rest ok are within inner) more =
    subst IsContent (sym (append_assoc (element name attributes inside) rest b)) (Element name attributes inside (rest ++ b) ok are within (content_append rest b inner more))

one_element : (name : List ℕ) (attributes : List Attribute) (inside : List ℕ) → is_name name ≡ true → AreAttributes attributes → IsContent inside → IsContent (element name attributes inside)
one_element name attributes inside ok are within = subst IsContent (append-nil (element name attributes inside)) (Element name attributes inside [] ok are within Nothing)

letters_shown : (text : List ℕ) → list_all is_text_letter text ≡ true → IsContent text
letters_shown [] all = Nothing
letters_shown (c ∷ cs) all = let it = both (is_text_letter c) (list_all is_text_letter cs) all in Letter c cs it.0 (letters_shown cs it.1)

-- ---- escaped letters

text_letter : (c : ℕ) (b : Bool) → is_visible c ≡ b → (c == 38) ≡ false → (c == 60) ≡ false → IsContent (if b then c ∷ [] else codes "?")
text_letter c true v n38 n60 = Letter c [] (grind (arith, nat_tests)) Nothing
text_letter c false v n38 n60 = Letter 63 [] refl Nothing

no_greater : (c : ℕ) (b : Bool) → (c == 38) ≡ false → (c == 60) ≡ false → IsContent (if b then codes "&gt;" else (if is_visible c then c ∷ [] else codes "?"))
no_greater c true n38 n60 = Reference (codes "&gt;") [] GreaterThan Nothing
no_greater c false n38 n60 = text_letter c (is_visible c) refl n38 n60

no_less : (c : ℕ) (b : Bool) → (c == 60) ≡ b → (c == 38) ≡ false → IsContent (if b then codes "&lt;" else (if c == 62 then codes "&gt;" else (if is_visible c then c ∷ [] else codes "?")))
no_less c true e n38 = Reference (codes "&lt;") [] LessThan Nothing
no_less c false e n38 = no_greater c (c == 62) n38 e

any_letter : (c : ℕ) (b : Bool) → (c == 38) ≡ b → IsContent (if b then codes "&amp;" else (if c == 60 then codes "&lt;" else (if c == 62 then codes "&gt;" else (if is_visible c then c ∷ [] else codes "?"))))
any_letter c true e = Reference (codes "&amp;") [] Ampersand Nothing
any_letter c false e = no_less c (c == 60) refl e

escaped_content : (text : List ℕ) → IsContent (escaped text)
escaped_content [] = Nothing
escaped_content (c ∷ cs) = content_append (escaped_letter c) (escaped cs) (any_letter c (c == 38) refl) (escaped_content cs)

-- ---- shapes

stroke_shown : (s : Stroke) → list_all is_value_letter (stroke_word s) ≡ true
stroke_shown stroke.Life = refl
stroke_shown stroke.Down = refl
stroke_shown stroke.Call = refl
stroke_shown stroke.Message = refl
stroke_shown stroke.Stub = refl

style_shown : (s : Style) → list_all is_value_letter (style_word s) ≡ true
style_shown style.Title = refl
style_shown style.Number = refl
style_shown style.Event = refl
style_shown style.Record = refl
style_shown style.Sending = refl
style_shown style.Answer = refl

numbered : (name : List ℕ) (n : ℕ) (more : List Attribute) → is_name name ≡ true → is_named name more ≡ false → AreAttributes more → AreAttributes (number_attribute name n ∷ more)
numbered name n more ok new are = OneAttribute (number_attribute name n) more ok (decimal_shown n) new are

line_content : (l : Line) → IsContent (line_text l)
line_content l =
    one_element (codes "line")
    (attribute (codes "class") (stroke_word l.stroke) ∷ number_attribute (codes "x1") l.x1 ∷ number_attribute (codes "y1") l.y1 ∷ number_attribute (codes "x2") l.x2 ∷ number_attribute (codes "y2") l.y2 ∷ []) [] refl
    (OneAttribute (attribute (codes "class") (stroke_word l.stroke)) _ refl (stroke_shown l.stroke) refl
    (numbered (codes "x1") l.x1 _ refl refl (numbered (codes "y1") l.y1 _ refl refl (numbered (codes "x2") l.x2 _ refl refl (numbered (codes "y2") l.y2 _ refl refl NoAttributes)))))
    Nothing

ground_content : (x top width : ℕ) → IsContent (ground_text x top width)
ground_content x top width =
    one_element (codes "rect")
    (attribute (codes "class") (codes "ground") ∷ number_attribute (codes "x") x ∷ number_attribute (codes "y") top ∷ number_attribute (codes "width") width ∷ number_attribute (codes "height") 16 ∷ []) [] refl
    (OneAttribute (attribute (codes "class") (codes "ground")) _ refl refl refl
    (numbered (codes "x") x _ refl refl (numbered (codes "y") top _ refl refl (numbered (codes "width") width _ refl refl (numbered (codes "height") 16 _ refl refl NoAttributes)))))
    Nothing

letters_content : (l : Label) → IsContent (letters_text l)
letters_content l =
    one_element (codes "text") (attribute (codes "class") (style_word l.style) ∷ number_attribute (codes "x") l.x ∷ number_attribute (codes "y") l.y ∷ []) (escaped l.text) refl
    (OneAttribute (attribute (codes "class") (style_word l.style)) _ refl (style_shown l.style) refl (numbered (codes "x") l.x _ refl refl (numbered (codes "y") l.y _ refl refl NoAttributes)))
    (escaped_content l.text)

lines_content : (ls : List Line) → IsContent (lines_text ls)
lines_content [] = Nothing
lines_content (l ∷ ls) = content_append (line_text l) (lines_text ls) (line_content l) (lines_content ls)

labels_content : (ls : List Label) → IsContent (labels_text ls)
labels_content [] = Nothing
labels_content (l ∷ ls) =
    content_append (label_text l) (labels_text ls) (content_append (ground_text l.x (l.y - 12) (ground_width (length l.text))) (letters_text l) (ground_content l.x (l.y - 12) (ground_width (length l.text))) (letters_content l)) (labels_content ls)

-- ---- the whole

fixed : (name value : List ℕ) (more : List Attribute) → is_name name ≡ true → list_all is_value_letter value ≡ true → is_named name more ≡ false → AreAttributes more → AreAttributes (attribute name value ∷ more)
fixed name value more ok shown new are = OneAttribute (attribute name value) more ok shown new are

abbrev style_inside : List ℕ
style_inside = codes ".ground{fill:white}line{stroke:#888;stroke-width:1}.life{stroke:#ccc}.down{stroke:white;stroke-width:3;stroke-dasharray:5 4}.call,.message,.stub{marker-end:url(#head)}.message{stroke:#36c;stroke-width:1.5}.stub{stroke:#c33}text{font:12px monospace;white-space:pre}.title{font-weight:bold}.number{fill:#999}.event{fill:#555}.record{fill:#060}.sending{fill:#36c}.answer{font-weight:bold}"

abbrev marker_attributes : List Attribute
marker_attributes =
    attribute (codes "id") (codes "head") ∷ attribute (codes "markerWidth") (codes "8") ∷ attribute (codes "markerHeight") (codes "8") ∷ attribute (codes "refX") (codes "8")
    ∷ attribute (codes "refY") (codes "4") ∷ attribute (codes "orient") (codes "auto") ∷ attribute (codes "markerUnits") (codes "userSpaceOnUse") ∷ []

abbrev path_attributes : List Attribute
path_attributes = attribute (codes "d") (codes "M0 0L8 4L0 8z") ∷ attribute (codes "fill") (codes "context-stroke") ∷ []

abbrev ground_attributes : List Attribute
ground_attributes = attribute (codes "class") (codes "ground") ∷ attribute (codes "width") (codes "100%") ∷ attribute (codes "height") (codes "100%") ∷ []

-- whether all names and values are right and the names distinct
are_right : List Attribute → Bool
are_right [] = true
are_right (a ∷ more) = is_name a.name && (list_all is_value_letter a.value && (not (is_named a.name more) && are_right more))

not_true : (b : Bool) → not b ≡ true → b ≡ false
not_true true e = absurd (let z : false ≡ true = e in cc)
not_true false e = refl

attributes_right : (attributes : List Attribute) → are_right attributes ≡ true → AreAttributes attributes
unfolding are_right
attributes_right [] e = NoAttributes
attributes_right (a ∷ more) e =
    let named = both (is_name a.name) (list_all is_value_letter a.value && (not (is_named a.name more) && are_right more)) e in
    let shown = both (list_all is_value_letter a.value) (not (is_named a.name more) && are_right more) named.1 in
    let new = both (not (is_named a.name more)) (are_right more) shown.1 in
    OneAttribute a more named.0 shown.0 (not_true (is_named a.name more) new.0) (attributes_right more new.1)

abbrev path_text : List ℕ
path_text = element (codes "path") path_attributes []

abbrev marker_text : List ℕ
marker_text = element (codes "marker") marker_attributes path_text

marker_content : IsContent marker_text
unfolding are_right
marker_content =
    one_element (codes "marker") marker_attributes path_text refl (attributes_right marker_attributes refl)
    (one_element (codes "path") path_attributes [] refl (attributes_right path_attributes refl) Nothing)

style_content : IsContent (element (codes "style") [] style_inside)
style_content = one_element (codes "style") [] style_inside refl NoAttributes (letters_shown style_inside refl)

ground_of_page : IsContent (element (codes "rect") ground_attributes [])
unfolding are_right
ground_of_page = one_element (codes "rect") ground_attributes [] refl (attributes_right ground_attributes refl) Nothing

looks_are : looks ≡ element (codes "style") [] style_inside ++ (element (codes "defs") [] marker_text ++ element (codes "rect") ground_attributes [])
unfolding looks
looks_are = refl

looks_content : IsContent looks
looks_content =
    subst IsContent (sym looks_are)
    (content_append (element (codes "style") [] style_inside) (element (codes "defs") [] marker_text ++ element (codes "rect") ground_attributes []) style_content
    (content_append (element (codes "defs") [] marker_text) (element (codes "rect") ground_attributes []) (one_element (codes "defs") [] marker_text refl NoAttributes marker_content) ground_of_page))

pub well_formed : (p : Picture) → IsDocument (svg_text p)
well_formed p =
    Document (codes "svg") (page_attributes p.width p.height) (looks ++ (lines_text p.lines ++ labels_text p.labels)) refl
    (fixed (codes "xmlns") (codes "http://www.w3.org/2000/svg") _ refl refl refl (numbered (codes "width") p.width _ refl refl (numbered (codes "height") p.height _ refl refl NoAttributes)))
    (content_append looks (lines_text p.lines ++ labels_text p.labels) looks_content (content_append (lines_text p.lines) (labels_text p.labels) (lines_content p.lines) (labels_content p.labels)))
