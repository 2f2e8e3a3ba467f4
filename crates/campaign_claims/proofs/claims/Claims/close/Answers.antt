use Rattle.campaign_claims.proofs.Steps.{closes}
use Rattle.campaign_claims.proofs.claims.Claims.close.Goals as goal

pub returns-clause-least : goal.returns-clause-least
returns-clause-least c = (closes _ _ _ _ _ _ _ _ c.last.view_is c.last.invariant.2 c.close_with-closed.ensures.values.2 c.word-word.ensures).least

pub returns-clause-apart : goal.returns-clause-apart
returns-clause-apart c = (closes _ _ _ _ _ _ _ _ c.last.view_is c.last.invariant.2 c.close_with-closed.ensures.values.2 c.word-word.ensures).apart

pub returns-clause-drawn : goal.returns-clause-drawn
returns-clause-drawn c = (closes _ _ _ _ _ _ _ _ c.last.view_is c.last.invariant.2 c.close_with-closed.ensures.values.2 c.word-word.ensures).drawn

pub returns-clause-all : goal.returns-clause-all
returns-clause-all c = (closes _ _ _ _ _ _ _ _ c.last.view_is c.last.invariant.2 c.close_with-closed.ensures.values.2 c.word-word.ensures).all
