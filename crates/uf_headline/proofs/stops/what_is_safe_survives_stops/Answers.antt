use Rattle.uf_headline.proofs.Firm.{firm-leaves, safe-firm}
use Rattle.uf_headline.proofs.stops.what_is_safe_survives_stops.Goals as goal

pub returns : goal.returns
returns c = λ X N t p es safe. firm-leaves X N p es t.writes (safe-firm X N p es t safe)
