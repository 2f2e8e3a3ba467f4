-- A comment is put, and cut where it is too long.
use Rattle.std.proofs.Common.{◌≡◌, sym, ap, ◌∙◌, ℕ, ◌+◌, ◌-◌, ◌≤◌, ◌<◌, nat_lt, arith, Bool, true, false, if◌then◌else◌, List, ◌++◌, length, take, drop, append_assoc}
use Rattle.std.proofs.Math.Seq.{take-add}
use Rattle.std.proofs.lemmas.Bool.{le-ltb, lt-ltb}
use Rattle.std.proofs.lemmas.List.{drop_at, length-drop, take-append-drop, take_at}
use Rattle.std.specs.Prelude.{codes}
use Rattle.bridge_command.specs.FrameLines.{comment_line, cut_comment}

-- what comes after the text that was there
pub comment_put : (old line text : List ℕ) (start : ℕ) → start ≡ length old → text ≡ (old ++ codes "# ") ++ line
    → take start text ++ cut_comment (drop start text) ≡ old ++ comment_line line
comment_put old line text start is put =
    let comment : List ℕ = codes "# " ++ line in
    let parts : text ≡ old ++ comment = put ∙ append_assoc old (codes "# ") line in
    ap (λ (t : List ℕ). take start t ++ cut_comment (drop start t)) parts
    ∙ ap (λ (front : List ℕ). front ++ cut_comment (drop start (old ++ comment))) (take_at old comment start (sym is))
    ∙ ap (λ (following : List ℕ). old ++ cut_comment following) (drop_at old comment start (sym is))

-- by whether it is too long
cut-by : (comment : List ℕ) (long : Bool) → nat_lt 4097 (length comment) ≡ long
    → cut_comment comment ≡ (if long then take 4096 comment ++ codes "\n" else comment)
cut-by comment long is = ap (λ (b : Bool). if b then take 4096 comment ++ codes "\n" else comment) is

-- one that is not stays
pub comment_kept : (text : List ℕ) (start : ℕ) → length text - start ≤ 4097 → text ≡ take start text ++ cut_comment (drop start text)
comment_kept text start short =
    let size = length-drop start text in
    sym (ap (λ (comment : List ℕ). take start text ++ comment)
    (cut-by (drop start text) false (le-ltb 4097 (length (drop start text)) (omega (arith, size, short)))) ∙ take-append-drop start text)

-- one that is ends after 4,096 bytes
pub comment_cut : (text : List ℕ) (start : ℕ) → 4097 < length text - start
    → take (start + 4096) text ++ codes "\n" ≡ take start text ++ cut_comment (drop start text)
comment_cut text start long =
    let size = length-drop start text in
    ap (λ (front : List ℕ). front ++ codes "\n") (take-add start 4096 text)
    ∙ append_assoc (take start text) (take 4096 (drop start text)) (codes "\n")
    ∙ ap (λ (comment : List ℕ). take start text ++ comment)
    (sym (cut-by (drop start text) true (lt-ltb 4097 (length (drop start text)) (omega (arith, size, long)))))
