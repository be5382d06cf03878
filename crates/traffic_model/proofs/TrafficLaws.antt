-- The laws of traffic, and what a replay cites beside them, passed on from one place. Declares nothing.
pub use Rattle.traffic_model.proofs.FlowLaws.{flow-closed, flow-further, flow-le_cap, flow-le_cap_of, least-each, outflow-closed, outflow-le, outflow-le_cap}
pub use Rattle.traffic_model.proofs.InflowLaws.{inflow-le_free, inflow_fits, inflow_of_queue, inflow_so_far, road_of}
pub use Rattle.traffic_model.proofs.ShareLaws.{receiving-le, share_cases}
pub use Rattle.traffic_model.proofs.HeldLaws.{AreHeld-initial_units, AreHeld-next_units, AreHeld-occupancies, initial_units-at, length-initial_units, length-next_units, length-occupancies, next_units-at, occupancies-suc, occupancies-zero}
pub use Rattle.traffic_model.proofs.ConservationLaws.{next_units-conserve, occupancies-conserve}
pub use Rattle.traffic_model.proofs.DelayLaws.{delay_of-le, delay_of-lt, delay_of-suc, delay_of-zero, held-le, held_so_far, left_of-sum, step_delay-le, step_delay-sum, step_delay_so_far, sum_held-le}
pub use Rattle.traffic_model.proofs.LetterLaws.{length-letters_at, letters_at-signal}
pub use Rattle.traffic_model.proofs.PrefixLaws.{delay_of-agree, delay_of-grows, left_of-agree, occupancies-agree}
pub use Rattle.traffic_model.proofs.FrontLaws.{delay_of-front, front-admissible, front-word, length-front, letters_at-front, take-admissible}
pub use Rattle.traffic_model.proofs.PlansExist.{plan_exists, plan_goes_on, word_exists, word_goes_on}
