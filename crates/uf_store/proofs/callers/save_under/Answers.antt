use Rattle.uf_store.proofs.Keeping.{Holds-saved}
use Rattle.uf_store.proofs.Writing.{SavesOnly-saved, Wrote-good}
use Rattle.uf_store.specs.Writing.{IsSave}
use Rattle.uf_store.proofs.callers.save_under.Goals as goal

pub returns-in-Done-clause-held : goal.returns-in-Done-clause-held
returns-in-Done-clause-held g c = Holds-saved _ _ _ _ c.in-Done.ensures.seen.kept

pub returns-in-Done-clause-good : goal.returns-in-Done-clause-good
returns-in-Done-clause-good g c = Wrote-good _ IsSave _ _ (SavesOnly-saved _ _ _ _ _ c.requires.digest c.in-Done.ensures.seen.no_other c.in-Done.ensures.seen.kept)

pub returns-in-Done-clause-saves : goal.returns-in-Done-clause-saves
returns-in-Done-clause-saves g c = SavesOnly-saved _ _ _ _ _ c.requires.digest c.in-Done.ensures.seen.no_other c.in-Done.ensures.seen.kept
