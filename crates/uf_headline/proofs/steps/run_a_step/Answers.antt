use Rattle.uf_headline.proofs.steps.run_a_step.Goals as goal

pub returns-clause-ran : goal.returns-clause-ran
returns-clause-ran g c = λ asked outside held is well. record { runs = c.run.ensures.runs asked is; well = well }

pub returns-clause-step : goal.returns-clause-step
returns-clause-step g c = λ asked outside held is well. record { runs = c.run.ensures.runs asked is; well = well }

pub returns-clause-call : goal.returns-clause-call
returns-clause-call g c = λ asked outside held is blocks tells. record { runs = c.run.ensures.runs asked is; held = blocks; tells = tells }
