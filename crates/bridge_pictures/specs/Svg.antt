-- The elements of a picture (SVG 1.1).
use Rattle.std.specs.Prelude.{ℕ, ◌==◌, nat_lt, Bool, if◌then◌else◌, List, [], ◌∷◌, flat_map, length, min, take, codes, decimal}
use Rattle.std.specs.List.{concat}
use Rattle.bridge_pictures.specs.declared.svg.Point.{Point}
use Rattle.bridge_pictures.specs.declared.svg.Snippet.{Snippet}
use Rattle.bridge_pictures.specs.declared.svg.Snippet.TheVariants as snippet

-- a byte of text as XML writes it between tags, where it reserves two
abbrev pub escaped_byte : ℕ → List ℕ
escaped_byte byte = if byte == 60 then codes "&lt;" else if byte == 38 then codes "&amp;" else byte ∷ []

-- a text between tags
abbrev pub escaped : List ℕ → List ℕ
escaped words = flat_map escaped_byte words

-- a snippet of a picture's text
abbrev pub snippet_text : Snippet → List ℕ
snippet_text (snippet.Plain words) = words.now
snippet_text (snippet.Escaped words) = escaped words.now
snippet_text (snippet.Number number) = decimal number

-- snippets, one after the other
abbrev pub snippets_text : List Snippet → List ℕ
snippets_text snippets = flat_map snippet_text snippets

-- a text has more than 60 bytes, and is cut
abbrev pub is_cut : List ℕ → Bool
is_cut words = nat_lt 60 (length words)

-- the part of a text that a picture has
unfoldable pub label_front : List ℕ → List ℕ
label_front words = if is_cut words then take (min (length words) 58) words else words

-- the mark of a text that is cut
unfoldable pub cut_mark : List ℕ → List ℕ
cut_mark words = if is_cut words then codes ".." else []

-- A text at that place, of at most 60 bytes, and the whole as a tooltip.
unfoldable pub label : List ℕ → Point → List ℕ → List ℕ
label class at words =
    concat (codes "<text class='" ∷ class ∷ codes "' x='" ∷ decimal at.x ∷ codes "' y='" ∷ decimal at.y ∷ codes "'>" ∷ escaped (label_front words)
    ∷ cut_mark words ∷ codes "<title>" ∷ escaped words ∷ codes "</title></text>\n" ∷ [])

-- A whole text at that place.
unfoldable pub words : List ℕ → Point → List ℕ → List ℕ
words class at text =
    concat (codes "<text class='" ∷ class ∷ codes "' x='" ∷ decimal at.x ∷ codes "' y='" ∷ decimal at.y ∷ codes "'>" ∷ escaped text
    ∷ codes "</text>\n" ∷ [])

-- A line between two places, with a tooltip.
unfoldable pub line : List ℕ → Point → Point → List ℕ → List ℕ
line class from to words =
    concat (codes "<line class='" ∷ class ∷ codes "' x1='" ∷ decimal from.x ∷ codes "' y1='" ∷ decimal from.y ∷ codes "' x2='" ∷ decimal to.x
    ∷ codes "' y2='" ∷ decimal to.y ∷ codes "'><title>" ∷ escaped words ∷ codes "</title></line>\n" ∷ [])

-- The first line of a picture of this size, which is also its view box.
unfoldable pub front : Point → List ℕ
front size =
    concat (codes "<svg xmlns='http://www.w3.org/2000/svg' version='1.1' width='" ∷ decimal size.x ∷ codes "' height='" ∷ decimal size.y
    ∷ codes "' viewBox='0 0 " ∷ decimal size.x ∷ codes " " ∷ decimal size.y ∷ codes "'>\n" ∷ [])
