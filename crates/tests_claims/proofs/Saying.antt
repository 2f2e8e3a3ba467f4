-- A line is read as what it says, or refused for its first fault. Bytes are read as one packet.
use Rattle.std.proofs.Common.{◌≡◌, ◌∙◌, ◌⊎◌, inl, inr, refl, sym, ℕ, List, Some, Result, Ok, Err}
use Rattle.std.specs.Prelude.{◌↔◌}
use Rattle.dccp_packets.specs.Grammar.{Parts, decoded}
use Rattle.schedule_text.specs.Faults.{line_fault}
use Rattle.schedule_text.specs.Forms.{IsLine}
use Rattle.schedule_text.specs.Reading.{read_line}
use Rattle.schedule_text.specs.declared.line.Line.{Line}
use Rattle.tool_text.specs.declared.words.faults.LineFault.{LineFault}

pub one-packet : (bytes : List ℕ) (one other : Parts) → decoded bytes ≡ Ok one → decoded bytes ≡ Ok other → one ≡ other
one-packet bytes one other is others = let both = sym is ∙ others in cc both

module _ (text : List ℕ) (forms : (said : Line) → (read_line text ≡ Ok said) ↔ IsLine text said)
    (faults : (fault : LineFault) → (read_line text ≡ Err fault) ↔ (line_fault text ≡ Some fault)) where
  pub either : ((said : Line) × IsLine text said) ⊎ ((fault : LineFault) × (line_fault text ≡ Some fault))
  either = by (read_line text) refl where
    by : (r : Result Line LineFault) → read_line text ≡ r → ((said : Line) × IsLine text said) ⊎ ((fault : LineFault) × (line_fault text ≡ Some fault))
    by (Ok said) is = inl (said, (forms said).0 is)
    by (Err fault) is = inr (fault, (faults fault).0 is)

  pub apart : (said : Line) (fault : LineFault) → IsLine text said → line_fault text ≡ Some fault → ⊥
  apart said fault is has = let both = sym ((forms said).1 is) ∙ (faults fault).1 has in cc both

  pub one : (said other : Line) → IsLine text said → IsLine text other → said ≡ other
  one said other is others = let both = sym ((forms said).1 is) ∙ (forms other).1 others in cc both
