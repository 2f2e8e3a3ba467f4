-- `none` writes null beside the allocator, and owns nothing more.
use prog.Wp.{Tables}
use contract.Running.{tables, tables_of}
use denote.Triple.Spec.{triple_of}
use denote.Triple.Table.{entered}
use Rattle.dccp_c.proofs.AsBox.{handle}
use Rattle.dccp_c.proofs.Handles.{makes_null}
use Rattle.dccp_c.proofs.held.OwnedEnd.TheLaws as held
use Rattle.dccp_c.specs.contracts.held.OwnedEnd as OwnedEnd
use Rattle.dccp_c.specs.contracts.kept.EndBox.none as F
use Rattle.dccp_c.specs.contracts.kept.EndBox.none.Key.{name as #self}
use Rattle.dccp_c.proofs.kept.EndBox.none.Statement as stated
use Rattle.dccp_c.proofs.kept.EndBox.none.Code as code

pub none_spec : {M : Type 1} → stated.statement M
unfolding tables_of
none_spec 𝓤 𝓛 𝓜 𝓡 wired =
    let 𝓣 : Tables 𝓤 𝓛.H = tables_of 𝓤 𝓛.H 𝓜 (tables 𝓤 𝓛.H 𝓜 𝓡 𝓡.env) in
    entered 𝓤 𝓛.H (triple_of 𝓛 F.signature (F.spec 𝓛 𝓜.mem 𝓡.returns)) 𝓣.C 𝓣.Λ #self code.function (code.unfolded 𝓤 𝓛.H 𝓜 𝓡 wired)
    (makes_null OwnedEnd.the_row held.the_row_laws handle 𝓛 𝓣)
