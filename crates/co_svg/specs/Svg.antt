-- The text of a picture, in Scalable Vector Graphics (W3C, SVG 2).
use Rattle.std.specs.Prelude.{ℕ, Bool, ◌-◌, ◌*◌, ◌==◌, nat_le, ◌&&◌, min, if◌then◌else◌, List, [], ◌∷◌, ◌++◌, length, codes, decimal}
use Rattle.co_svg.specs.declared.shape.Line.{Line}
use Rattle.co_svg.specs.declared.shape.Stroke.{Stroke}
use Rattle.co_svg.specs.declared.shape.Stroke.TheVariants as stroke
use Rattle.co_svg.specs.declared.shape.Style.{Style}
use Rattle.co_svg.specs.declared.shape.Style.TheVariants as style

-- ---- elements

pub record Attribute : Type 0 where
  pub name : List ℕ
  pub value : List ℕ

abbrev pub attribute : List ℕ → List ℕ → Attribute
attribute name value = record { name = name; value = value }

-- a space, the name, and the value in quotes
abbrev pub attribute_text : Attribute → List ℕ
attribute_text a = 32 ∷ (a.name ++ (61 ∷ 34 ∷ (a.value ++ 34 ∷ [])))

abbrev pub attributes_text : List Attribute → List ℕ
attributes_text [] = []
attributes_text (a ∷ as') = attribute_text a ++ attributes_text as'

-- an element of this name, with these attributes and this content
abbrev pub element : List ℕ → List Attribute → List ℕ → List ℕ
element name attributes inside = 60 ∷ (name ++ (attributes_text attributes ++ (62 ∷ (inside ++ (60 ∷ 47 ∷ (name ++ 62 ∷ []))))))

-- ---- letters

-- visible ASCII and the space
abbrev pub is_visible : ℕ → Bool
is_visible letter = nat_le 32 letter && nat_le letter 126

-- a letter as text has it: the letters of markup by their names, and a question mark for what no line has
abbrev pub escaped_letter : ℕ → List ℕ
escaped_letter letter =
    if letter == 38 then codes "&amp;" else
    (if letter == 60 then codes "&lt;" else
    (if letter == 62 then codes "&gt;" else
    (if is_visible letter then letter ∷ [] else codes "?")))

abbrev pub escaped : List ℕ → List ℕ
escaped [] = []
escaped (letter ∷ letters) = escaped_letter letter ++ escaped letters

-- ---- shapes

abbrev pub stroke_word : Stroke → List ℕ
stroke_word stroke.Life = codes "life"
stroke_word stroke.Down = codes "down"
stroke_word stroke.Call = codes "call"
stroke_word stroke.Message = codes "message"
stroke_word stroke.Stub = codes "stub"

abbrev pub style_word : Style → List ℕ
style_word style.Title = codes "title"
style_word style.Number = codes "number"
style_word style.Event = codes "event"
style_word style.Record = codes "record"
style_word style.Sending = codes "sending"
style_word style.Answer = codes "answer"

abbrev pub number_attribute : List ℕ → ℕ → Attribute
number_attribute name value = attribute name (decimal value)

abbrev pub line_text : Line → List ℕ
line_text l = element (codes "line")
    (attribute (codes "class") (stroke_word l.stroke) ∷ number_attribute (codes "x1") l.x1 ∷ number_attribute (codes "y1") l.y1
    ∷ number_attribute (codes "x2") l.x2 ∷ number_attribute (codes "y2") l.y2 ∷ []) []

-- a text that begins here
pub record Label : Type 0 where
  pub style : Style
  pub x : ℕ
  pub y : ℕ
  pub text : List ℕ

abbrev pub label : Style → ℕ → ℕ → List ℕ → Label
label style x y text = record { style = style; x = x; y = y; text = text }

-- how wide the ground of a text of so many letters is
abbrev pub ground_width : ℕ → ℕ
ground_width letters = 8 * min letters 64

abbrev pub box_text : List ℕ → ℕ → ℕ → ℕ → ℕ → List ℕ
box_text class x y width height = element (codes "rect")
    (attribute (codes "class") class ∷ number_attribute (codes "x") x ∷ number_attribute (codes "y") y ∷ number_attribute (codes "width") width
    ∷ number_attribute (codes "height") height ∷ []) []

-- what stands behind a text: it lies on white
abbrev pub ground_text : ℕ → ℕ → ℕ → List ℕ
ground_text x top width = box_text (codes "ground") x top width 16

abbrev pub letters_text : Label → List ℕ
letters_text l = element (codes "text")
    (attribute (codes "class") (style_word l.style) ∷ number_attribute (codes "x") l.x ∷ number_attribute (codes "y") l.y ∷ []) (escaped l.text)

-- its front, up to the letters
abbrev pub opening_text : Style → ℕ → ℕ → List ℕ
opening_text style x y = 60 ∷ (codes "text"
    ++ (attributes_text (attribute (codes "class") (style_word style) ∷ number_attribute (codes "x") x ∷ number_attribute (codes "y") y ∷ []) ++ 62 ∷ []))

abbrev pub label_text : Label → List ℕ
label_text l = ground_text l.x (l.y - 12) (ground_width (length l.text)) ++ letters_text l

-- ---- the whole

-- what every picture begins with: its ground, the looks of its lines and texts, and the head of an arrow
unfoldable pub looks : List ℕ
looks = codes "<style>.ground{fill:white}line{stroke:#888;stroke-width:1}.life{stroke:#ccc}.down{stroke:white;stroke-width:3;stroke-dasharray:5 4}.call,.message,.stub{marker-end:url(#head)}.message{stroke:#36c;stroke-width:1.5}.stub{stroke:#c33}text{font:12px monospace;white-space:pre}.title{font-weight:bold}.number{fill:#999}.event{fill:#555}.record{fill:#060}.sending{fill:#36c}.answer{font-weight:bold}</style><defs><marker id=\"head\" markerWidth=\"8\" markerHeight=\"8\" refX=\"8\" refY=\"4\" orient=\"auto\" markerUnits=\"userSpaceOnUse\"><path d=\"M0 0L8 4L0 8z\" fill=\"context-stroke\"></path></marker></defs><rect class=\"ground\" width=\"100%\" height=\"100%\"></rect>"

-- what a picture shows: how large its page is, its lines, and its texts over them
pub record Picture : Type 0 where
  pub width : ℕ
  pub height : ℕ
  pub lines : List Line
  pub labels : List Label

abbrev pub page_attributes : ℕ → ℕ → List Attribute
page_attributes width height =
    attribute (codes "xmlns") (codes "http://www.w3.org/2000/svg") ∷ number_attribute (codes "width") width ∷ number_attribute (codes "height") height ∷ []

abbrev pub lines_text : List Line → List ℕ
lines_text [] = []
lines_text (l ∷ ls) = line_text l ++ lines_text ls

abbrev pub labels_text : List Label → List ℕ
labels_text [] = []
labels_text (l ∷ ls) = label_text l ++ labels_text ls

-- the tag that opens a picture, and behind it a picture up to its lines
abbrev pub page_text : ℕ → ℕ → List ℕ
page_text width height = 60 ∷ (codes "svg" ++ (attributes_text (page_attributes width height) ++ 62 ∷ []))

abbrev pub front_text : ℕ → ℕ → List ℕ
front_text width height = page_text width height ++ looks

-- and what it ends with
abbrev pub end_text : List ℕ
end_text = codes "</svg>"

abbrev pub svg_text : Picture → List ℕ
svg_text p = element (codes "svg") (page_attributes p.width p.height) (looks ++ (lines_text p.lines ++ labels_text p.labels))
