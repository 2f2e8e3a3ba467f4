use Rattle.std.proofs.Common.{◌≡◌, ℕ, Bool, true, false, List, Some, sym, ap, ◌∙◌, inl, if◌then◌else◌, arith, rules}
use Rattle.std.proofs.lemmas.Bool.{le-leb}
use Rattle.dccp_endpoint.specs.declared.config.Config.{Config}
use Rattle.dccp_uses.specs.Session.{is_listening}
use Rattle.dccp_uses.specs.declared.holding.Reading.{Reading}
use Rattle.dccp_c.specs.Accepting.{first_heard, heard_code}
use Rattle.dccp_c.specs.Doing.{c_end, end_in}
use Rattle.dccp_c.specs.Framing.{handed_in, handed_of}
use Rattle.dccp_c.specs.Outcomes.{told_reading}
use Rattle.dccp_c.specs.Stepping.{CEnd, CStep, c_receives}
use Rattle.dccp_c.specs.Telling.{is_short}
use Rattle.dccp_c.specs.declared.making.Care.{Care}
use Rattle.dccp_c.proofs.calls.accept.Goals as goal

pub returns-clause-end : goal.returns-clause-end
returns-clause-end c =
    ap end_in c.put.ensures ∙ ap (λ (s : CStep _). Some s.after) c.receive.ensures.step
    ∙ ap (λ (s : CEnd). Some (c_receives c.args.datagram.now c.args.now s).after) (ap c_end c.deref_mut.ensures.value ∙ c.in-Ok.ensures.end)

pub returns-clause-frame : goal.returns-clause-frame
returns-clause-frame c =
    let filled : handed_in c.fill.new.self ≡ handed_of c.receive.new.held.out = search rules in
    filled
    ∙ ap (λ (s : CStep Reading). handed_of s.frame) c.receive.ensures.step
    ∙ ap (λ (s : CEnd). handed_of (c_receives c.args.datagram.now c.args.now s).frame) (ap c_end c.deref_mut.ensures.value ∙ c.in-Ok.ensures.end)

pub returns-clause-told : goal.returns-clause-told
returns-clause-told c =
    c.told_reading.ensures
    ∙ ap (λ (s : CStep Reading). told_reading s.answer) c.receive.ensures.step
    ∙ ap (λ (s : CEnd). told_reading (c_receives c.args.datagram.now c.args.now s).answer) (ap c_end c.deref_mut.ensures.value ∙ c.in-Ok.ensures.end)

pub returns-then-is_listening-clause-frame : goal.returns-then-is_listening-clause-frame
returns-then-is_listening-clause-frame c =
    let filled : handed_in c.fill.new.self ≡ handed_of c.receive.new.held.out = search rules in
    filled
    ∙ ap (λ (s : CStep Reading). handed_of s.frame) c.receive.ensures.step
    ∙ ap (λ (s : CEnd). handed_of (c_receives c.args.datagram.now c.args.now s).frame) (ap c_end c.deref_mut.ensures.value ∙ c.in-Ok.ensures.end)

pub returns-then-is_listening-clause-told : goal.returns-then-is_listening-clause-told
returns-then-is_listening-clause-told c =
    c.told_reading.ensures
    ∙ ap (λ (s : CStep Reading). told_reading s.answer) c.receive.ensures.step
    ∙ ap (λ (s : CEnd). told_reading (c_receives c.args.datagram.now c.args.now s).answer) (ap c_end c.deref_mut.ensures.value ∙ c.in-Ok.ensures.end)

-- the code of a datagram that is not too long, by whether its end still waits for a Request
code-by : (bytes : List ℕ) (now : ℕ) (care : Care) (config : Config) (listens : Bool) → is_short bytes ≡ true
    → listens ≡ is_listening (first_heard bytes now care config).after.timed.end.state.phase → (if listens then 13 else 0) ≡ heard_code bytes now care config
code-by bytes now care config listens short is =
    ap (λ (b : Bool). if b then 13 else 0) is
    ∙ ap (λ (b : Bool). if b then (if is_listening (first_heard bytes now care config).after.timed.end.state.phase then 13 else 0) else 5) (sym short)

pub returns-clause-code : goal.returns-clause-code
returns-clause-code c =
    let waits : is_listening c.receive.new.held.timed.end.state.phase ≡ false = search rules in
    inl (code-by c.args.datagram.now c.args.now c.args.care.now c.args.config false
    (le-leb _ 2044 (omega (arith, c.if-datagram-gt-MOST_FRAME_BYTES.false)))
    (sym waits ∙ ap (λ (s : CStep Reading). is_listening s.after.timed.end.state.phase) (c.receive.ensures.step
    ∙ ap (c_receives c.args.datagram.now c.args.now) (ap c_end c.deref_mut.ensures.value ∙ c.in-Ok.ensures.end))))

pub returns-then-is_listening-clause-code : goal.returns-then-is_listening-clause-code
returns-then-is_listening-clause-code c =
    let waits : is_listening c.receive.new.held.timed.end.state.phase ≡ true = search rules in
    inl (code-by c.args.datagram.now c.args.now c.args.care.now c.args.config true
    (le-leb _ 2044 (omega (arith, c.if-datagram-gt-MOST_FRAME_BYTES.false)))
    (sym waits ∙ ap (λ (s : CStep Reading). is_listening s.after.timed.end.state.phase) (c.receive.ensures.step
    ∙ ap (c_receives c.args.datagram.now c.args.now) (ap c_end c.deref_mut.ensures.value ∙ c.in-Ok.ensures.end))))
