-- Each item has one text, in its own row.
use Rattle.std.proofs.Common.{◌≡◌, ℕ, ◌+◌, Bool, true, false, List, [], ◌∷◌, ◌++◌, length, refl, sym, ap, ◌∙◌, subst, append_assoc}
use Rattle.std.specs.Prelude.{All}
use Rattle.std.proofs.lemmas.List.Elements.{All-nil, All-cons, All-append}
use Rattle.co_message.specs.declared.item.Item.{Item}
use Rattle.co_picture.specs.Columns.{columns_of, place_of}
use Rattle.co_picture.specs.Course.{after, at_first}
use Rattle.co_picture.specs.Entry.{entry_of, entries_from, entries_of, titled}
use Rattle.co_picture.specs.Laws.{IsTextOf, AreTextsOf, NoTexts, OneText, IsDrawnInOrder, is_aside}
use Rattle.co_picture.specs.Picture.{head_of, titles_from, number_labels, numbers_from, text_label, texts_from, style_of, picture_of, height_of}
use Rattle.co_picture.specs.declared.column.Column.{Column}
use Rattle.co_picture.specs.declared.course.Course.{Course}
use Rattle.co_picture.specs.declared.entry.Entry.{Entry}
use Rattle.co_picture.specs.declared.entry.Role.{Role}
use Rattle.co_picture.specs.declared.entry.Role.TheVariants as role
use Rattle.co_svg.specs.Svg.{Label, label}
use Rattle.co_svg.specs.declared.shape.Style.TheVariants as style

abbrev aside : Label → Type 0
aside l = is_aside l.style ≡ true

abbrev shown : Label → Type 0
shown l = is_aside l.style ≡ false

titles_aside : (all : List Column) (height : ℕ) (columns : List Column) → All aside (titles_from all height columns)
titles_aside all height [] = All-nil aside
titles_aside all height (column ∷ columns) =
    All-cons aside (label style.Title (place_of all column.lane) height column.title) (titles_from all height columns) refl (titles_aside all height columns)

number_aside : (row : ℕ) (r : Role) (number : ℕ) → All aside (number_labels row r number)
number_aside row role.Event number = All-cons aside _ [] refl (All-nil aside)
number_aside row role.Record number = All-nil aside
number_aside row role.Sending number = All-nil aside
number_aside row role.Answer number = All-nil aside

numbers_aside : (row : ℕ) (entries : List Entry) → All aside (numbers_from row entries)
numbers_aside row [] = All-nil aside
numbers_aside row (entry ∷ entries) =
    All-append aside (number_labels row entry.role entry.number) (numbers_from (row + 1) entries) (number_aside row entry.role entry.number) (numbers_aside (row + 1) entries)

role_shown : (r : Role) → is_aside (style_of r) ≡ false
role_shown role.Event = refl
role_shown role.Record = refl
role_shown role.Sending = refl
role_shown role.Answer = refl

texts_shown : (columns : List Column) (row : ℕ) (entries : List Entry) → All shown (texts_from columns row entries)
texts_shown columns row [] = All-nil shown
texts_shown columns row (entry ∷ entries) =
    All-cons shown (text_label columns row entry) (texts_from columns (row + 1) entries) (role_shown entry.role) (texts_shown columns (row + 1) entries)

each_text : (columns : List Column) (row : ℕ) (before : List Item) (c : Course) (items : List Item) → AreTextsOf row items (texts_from columns row (entries_from before c items))
each_text columns row before c [] = NoTexts row
each_text columns row before c (it ∷ items) =
    OneText row it items (text_label columns row (entry_of before (after c it.what) it)) (texts_from columns (row + 1) (entries_from (before ++ it ∷ []) (after c it.what) items))
    (record { in_row = refl; front = titled (after c it.what) it.what; words = refl })
    (each_text columns (row + 1) (before ++ it ∷ []) (after c it.what) items)

pub drawn_in_order : (items : List Item) → IsDrawnInOrder items (picture_of items)
drawn_in_order items =
    let columns = columns_of (head_of items) (entries_of items) in
    record {
      asides = titles_from columns 20 columns ++ numbers_from 0 (entries_of items);
      texts = texts_from columns 0 (entries_of items);
      labels = sym (append_assoc (titles_from columns 20 columns) (numbers_from 0 (entries_of items)) (texts_from columns 0 (entries_of items)));
      others = All-append aside (titles_from columns 20 columns) (numbers_from 0 (entries_of items)) (titles_aside columns 20 columns) (numbers_aside 0 (entries_of items));
      items_only = texts_shown columns 0 (entries_of items);
      each = each_text columns 0 [] at_first items;
    }
