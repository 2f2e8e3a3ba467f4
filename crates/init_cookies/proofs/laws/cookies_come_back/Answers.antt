use Rattle.init_cookies.proofs.ComeBack.{come_back}
use Rattle.init_cookies.proofs.laws.cookies_come_back.Goals as goal

pub returns : goal.returns
returns c = come_back
