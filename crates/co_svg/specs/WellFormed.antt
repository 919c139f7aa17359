-- Well-formed text of markup (W3C, Extensible Markup Language 1.0, the productions of elements, attributes, references and character data; of
-- these a part is enough here: no declarations, comments or processing instructions, and names and letters in ASCII).
use Rattle.std.specs.Prelude.{ℕ, Bool, true, false, not, ◌≡◌, ◌==◌, nat_le, ◌&&◌, ◌||◌, List, [], ◌∷◌, ◌++◌, length, codes}
use Rattle.std.specs.List.{list_all, list_any}
use Rattle.co_svg.specs.Svg.{Attribute, attribute_text, attributes_text, element}

-- ---- names

abbrev pub is_letter : ℕ → Bool
is_letter c = (nat_le 97 c && nat_le c 122) || (nat_le 65 c && nat_le c 90)

abbrev pub is_name_letter : ℕ → Bool
is_name_letter c = is_letter c || (nat_le 48 c && nat_le c 57)

-- a letter, and behind it letters and digits
abbrev pub is_name : List ℕ → Bool
is_name [] = false
is_name (c ∷ cs) = is_letter c && list_all is_name_letter cs

-- ---- attributes

-- visible ASCII and the space
abbrev pub is_shown : ℕ → Bool
is_shown c = nat_le 32 c && nat_le c 126

-- a letter of a value in quotes: no quote, and no letter of markup
abbrev pub is_value_letter : ℕ → Bool
is_value_letter c = is_shown c && (not (c == 34) && (not (c == 38) && not (c == 60)))

abbrev pub same_text : List ℕ → List ℕ → Bool
same_text [] [] = true
same_text [] (d ∷ ds) = false
same_text (c ∷ cs) [] = false
same_text (c ∷ cs) (d ∷ ds) = (c == d) && same_text cs ds

-- whether an attribute of this name is among these
abbrev pub is_named : List ℕ → List Attribute → Bool
is_named name attributes = list_any (λ a. same_text name a.name) attributes

-- attributes have names and values, and no two have one name
pub data AreAttributes : List Attribute → Type 0 where
  NoAttributes : AreAttributes []
  OneAttribute : (a : Attribute) (more : List Attribute) → is_name a.name ≡ true → list_all is_value_letter a.value ≡ true → is_named a.name more ≡ false → AreAttributes more →
      AreAttributes (a ∷ more)

-- ---- content

-- a letter of a text: no letter of markup
abbrev pub is_text_letter : ℕ → Bool
is_text_letter c = is_shown c && (not (c == 38) && not (c == 60))

-- the letters that stand for a letter of markup: its name between `&` and `;`
pub data IsReference : List ℕ → Type 0 where
  Ampersand : IsReference (codes "&amp;")
  LessThan : IsReference (codes "&lt;")
  GreaterThan : IsReference (codes "&gt;")

-- texts, references and elements, one behind the other; the tags of an element close in order
pub data IsContent : List ℕ → Type 0 where
  Nothing : IsContent []
  Letter : (c : ℕ) (rest : List ℕ) → is_text_letter c ≡ true → IsContent rest → IsContent (c ∷ rest)
  Reference : (reference rest : List ℕ) → IsReference reference → IsContent rest → IsContent (reference ++ rest)
  Element : (name : List ℕ) (attributes : List Attribute) (inside rest : List ℕ) → is_name name ≡ true → AreAttributes attributes → IsContent inside → IsContent rest →
      IsContent (element name attributes inside ++ rest)

-- a document is one element
pub data IsDocument : List ℕ → Type 0 where
  Document : (name : List ℕ) (attributes : List Attribute) (inside : List ℕ) → is_name name ≡ true → AreAttributes attributes → IsContent inside →
      IsDocument (element name attributes inside)
