use Rattle.std.proofs.Common.{rules}
use Rattle.dccp_c.specs.Framing.{handed_in}
use Rattle.dccp_c.specs.Listening.{holding_in, holding_of}
use Rattle.dccp_c.proofs.Served.{ticks_so}
use Rattle.dccp_c.proofs.listener_calls.dccp_listener_tick.Goals as goal

pub returns : goal.returns
returns c =
    ticks_so c.args.now (holding_in c.args.listener.now.kept.value) (holding_in c.put.new.self.kept.value) (holding_of c.deref_mut.result.now)
    (holding_of c.do_duty-duty.new.serving) c.do_duty-duty.result (handed_in c.fill.new.self) c.args.peer.now c.duty_address.result c.duty_code.result
    (search rules) (search rules) c.do_duty-duty.ensures.duty c.do_duty-duty.ensures.after (search rules) c.duty_address.ensures c.duty_code.ensures
