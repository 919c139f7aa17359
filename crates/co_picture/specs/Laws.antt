-- What every picture promises.
use Rattle.std.specs.Prelude.{ℕ, Bool, true, false, ◌≡◌, ◌+◌, ◌≤◌, ◌<◌, List, [], ◌∷◌, ◌++◌, length, All, slice_get, Option, None, Some}
use Rattle.co_message.specs.declared.item.Item.{Item}
use Rattle.co_message.specs.declared.message.Message.{Message}
use Rattle.co_picture.specs.Entry.{told_of, cut, sends}
use Rattle.co_picture.specs.Picture.{height_of}
use Rattle.co_svg.specs.Svg.{Picture, Label}
use Rattle.co_svg.specs.declared.shape.Line.{Line}
use Rattle.co_svg.specs.declared.shape.Style.{Style}
use Rattle.co_svg.specs.declared.shape.Style.TheVariants as style
use Rattle.co_transcript.specs.Spelling.{item_text}

-- ---- each item once, in order

-- the text of an item in this row: its words, behind the number of a decision where it is one
pub record IsTextOf (row : ℕ) (it : Item) (l : Label) : Type 0 where
  pub in_row : l.y ≡ height_of row + 4
  pub front : List ℕ
  pub words : l.text ≡ front ++ cut (told_of (item_text it) it.what)

-- texts of items, one for each, in rows that go on from this one
pub data AreTextsOf : ℕ → List Item → List Label → Type 0 where
  NoTexts : (row : ℕ) → AreTextsOf row [] []
  OneText : (row : ℕ) (it : Item) (items : List Item) (l : Label) (ls : List Label) → IsTextOf row it l → AreTextsOf (row + 1) items ls → AreTextsOf row (it ∷ items) (l ∷ ls)

-- neither the title of a lane nor the number of a line is the text of an item
abbrev pub is_aside : Style → Bool
is_aside style.Title = true
is_aside style.Number = true
is_aside _ = false

pub record IsDrawnInOrder (items : List Item) (p : Picture) : Type 0 where
  pub asides : List Label
  pub texts : List Label
  pub labels : p.labels ≡ asides ++ texts
  pub others : All (λ l. is_aside l.style ≡ true) asides
  pub items_only : All (λ l. is_aside l.style ≡ false) texts
  pub each : AreTextsOf 0 items texts

-- ---- the page

pub record IsLineWithin (width height : ℕ) (l : Line) : Type 0 where
  pub x1 : l.x1 ≤ width
  pub y1 : l.y1 ≤ height
  pub x2 : l.x2 ≤ width
  pub y2 : l.y2 ≤ height

pub record IsLabelWithin (width height : ℕ) (l : Label) : Type 0 where
  pub x : l.x ≤ width
  pub y : l.y ≤ height

pub record IsWithinPage (p : Picture) : Type 0 where
  pub lines : All (IsLineWithin p.width p.height) p.lines
  pub labels : All (IsLabelWithin p.width p.height) p.labels

-- ---- arrows

-- the message is not among what these items send
abbrev pub IsUnsent : List Item → Message → Type 0
IsUnsent items message = All (λ it. sends message it ≡ false) items

-- the item in this row sends the message, and none behind it does
pub record IsSentAt (before : List Item) (message : Message) (row : ℕ) : Type 0 where
  pub front : List Item
  pub sending : Item
  pub behind : List Item
  pub order : before ≡ front ++ sending ∷ behind
  pub place : row ≡ length front
  pub sent : sends message sending ≡ true
  pub none_behind : IsUnsent behind message

abbrev pub IsLatest : List Item → Message → Option ℕ → Type 0
IsLatest before message None = IsUnsent before message
IsLatest before message (Some row) = IsSentAt before message row
