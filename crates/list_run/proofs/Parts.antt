-- The text of what is in force, part by part.
use Rattle.std.proofs.Common.{◌≡◌, ℕ, List, [], ◌∷◌, ◌++◌, ◌∙◌, ap, append-nil}
use Rattle.std.proofs.lemmas.List.Concat.{flat_map-append}
use Rattle.std.specs.List.{flat_map}
use Rattle.book_words.specs.declared.act.Entry.{Entry}
use Rattle.list_run.specs.declared.types.Line.{Line}
use Rattle.list_run.specs.declared.types.Section.TheVariants.{Products, Tares, Batches}
use Rattle.list_run.specs.Listing.{day_line, rows_line, section_lines, lane_lines, desk_lines, named_lines, numbered_lines}
use Rattle.list_run.specs.Texts.{line_text, list_text}

-- the text of some lines
abbrev pub text_of : List Line → List ℕ
text_of lines = flat_map line_text lines

-- lines behind others
behind : (some more : List Line) (text : List ℕ) → text_of some ≡ text
    → text_of (some ++ more) ≡ text ++ text_of more
behind some more text is =
    flat_map-append line_text some more ∙ ap (λ (l : List ℕ). l ++ text_of more) is

pub named_text : (entries : List Entry)
    → text_of (named_lines entries)
    ≡ line_text (day_line entries) ++ text_of (section_lines Products entries)
    ++ text_of (section_lines Tares entries) ++ text_of (section_lines Batches entries)
named_text entries =
    let day = day_line entries ∷ [] in
    let one = day ++ section_lines Products entries in
    let two = one ++ section_lines Tares entries in
    behind two (section_lines Batches entries) _
    (behind one (section_lines Tares entries) _
    (behind day (section_lines Products entries) _ (append-nil (line_text (day_line entries)))))

pub numbered_text : (entries : List Entry) (limit : ℕ)
    → text_of (numbered_lines entries limit)
    ≡ text_of (lane_lines entries) ++ text_of (desk_lines entries)
    ++ line_text (rows_line entries limit)
numbered_text entries limit =
    let both = lane_lines entries ++ desk_lines entries in
    behind both (rows_line entries limit ∷ []) _
    (flat_map-append line_text (lane_lines entries) (desk_lines entries))
    ∙ ap (λ (l : List ℕ). (text_of (lane_lines entries) ++ text_of (desk_lines entries)) ++ l)
    (append-nil (line_text (rows_line entries limit)))

pub listed_text : (entries : List Entry) (limit : ℕ)
    → list_text limit entries
    ≡ text_of (named_lines entries) ++ text_of (numbered_lines entries limit)
listed_text entries limit =
    flat_map-append line_text (named_lines entries) (numbered_lines entries limit)
